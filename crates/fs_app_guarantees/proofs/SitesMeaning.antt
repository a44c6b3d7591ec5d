-- What an answer over sites means of programs.
use Rattle.std.proofs.Common.{List}
use Rattle.fs_kinds.specs.declared.placement.Entry.{Entry}
use Rattle.fs_model_laws.proofs.FencedPrograms.{fenced_alike}
use Rattle.fs_sites.proofs.Strongest.{all-allowed}
use Rattle.fs_sites.specs.Answers.{IsAnswer}
use Rattle.fs_sites.specs.Questions.{AllowsIn, Part, Question, image}
use Rattle.fs_sites.specs.declared.answer.Answer.{Answer}
use Rattle.fs_sites.specs.declared.answer.Answer.TheVariants as answer
use Rattle.fs_app_guarantees.specs.Sites.{IsTrueOfSites, ShowsSome}

shows-some : (parts : List Part) (p : List Entry) → AllowsIn parts p → ShowsSome parts p
shows-some parts p (number, part, at, allowed) =
    (number, part, at, (fenced_alike part.test (image part.places p)).1 allowed)

allows-in : (parts : List Part) (p : List Entry) → ShowsSome parts p → AllowsIn parts p
allows-in parts p (number, part, at, shown) =
    (number, part, at, (fenced_alike part.test (image part.places p)).0 shown)

pub true_of_sites : (q : Question) (a : Answer) → IsAnswer q a → IsTrueOfSites q a
true_of_sites q (answer.Fenced p n) (cheapest, cost) = (
  λ shown. cheapest.forbids (allows-in q.parts p shown),
  λ r over better. shows-some q.parts r (cheapest.better r over better),
  cost,
)
true_of_sites q (answer.None number w) (part, at, with) = λ r over.
    shows-some q.parts r (all-allowed q.offers r over q.parts (number, part, at, (with.0, with.2)))
