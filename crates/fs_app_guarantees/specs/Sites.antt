-- What an answer of `solve --sites` means, in the words of the model's chapter: of the programs of its files, in which
-- fences are instructions.
use Rattle.std.specs.Prelude.{◌≡◌, ℕ, true, Some, List, slice_get}
use Rattle.fs_kinds.specs.declared.placement.Entry.{Entry}
use Rattle.fs_kinds.specs.Placement.{slots_of}
use Rattle.fs_model.specs.Answers.{fenced}
use Rattle.fs_model.specs.Executions.{Allows}
use Rattle.fs_model.specs.OfTests.{program_of, outcome_of}
use Rattle.fs_board_offers.specs.Offers.{IsPlacement, cost, is_better, slots}
use Rattle.fs_sites.specs.declared.answer.Answer.{Answer}
use Rattle.fs_sites.specs.declared.answer.Answer.TheVariants as answer
use Rattle.fs_sites.specs.Questions.{Part, Question, image}

-- with these fences of the sites, each at all its places, the program of some file shows its outcome
abbrev pub ShowsSome : List Part → List Entry → Type 0
ShowsSome parts p =
    (number : ℕ) × (part : Part) × (slice_get parts number ≡ Some part)
    × Allows (fenced (program_of part.test) (image part.places p)) (outcome_of part.test)

-- With these fences no program shows its outcome, and with any better ones some program does; or some program does
-- whatever stands at the sites.
abbrev pub IsTrueOfSites : Question → Answer → Type 0
IsTrueOfSites q (answer.Fenced p n) =
    (ShowsSome q.parts p → ⊥)
    × ((r : List Entry) → IsPlacement q.offers r → is_better q.offers r p ≡ true → ShowsSome q.parts r)
    × (n ≡ cost q.offers p)
IsTrueOfSites q (answer.None number w) = (r : List Entry) → slots_of r ≡ slots q.offers → ShowsSome q.parts r
