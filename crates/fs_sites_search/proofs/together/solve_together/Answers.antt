use Rattle.std.proofs.Common.{All, ap, sym, subst, ◌∙◌}
use Rattle.fs_sites.specs.Questions.{Question, IsPart}
use Rattle.fs_sites_search.proofs.together.solve_together.Goals as goal

pub by_rounds-requires-clause-parts : goal.by_rounds-requires-clause-parts
by_rounds-requires-clause-parts g c κs within =
    subst (All IsPart) (sym (c.as_slice-parts.ensures ∙ ap (λ (q : Question). q.parts) c.question.view_is)) c.requires.question.parts
