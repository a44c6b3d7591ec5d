use Rattle.std.proofs.Common.{All, List, ap, sym, subst, ◌∙◌}
use Rattle.fs_sites.specs.Answers.{IsSolveFault}
use Rattle.fs_sites.specs.Questions.{Part, Question, IsPart}
use Rattle.fs_app_place_and_order.proofs.Faults.{IfErr-handed}
use Rattle.fs_app_sites_check_and_audit.proofs.certified.answer_of.Goals as goal

pub cycles_of-requires : goal.cycles_of-requires
cycles_of-requires g c =
    subst (All IsPart) (sym (c.as_slice-parts.ensures ∙ ap (λ (q : Question). q.parts) c.question.view_is)) c.requires.parts

pub returns-in_err-cycles-clause-err : goal.returns-in_err-cycles-clause-err
returns-in_err-cycles-clause-err g c =
    IfErr-handed c.from_residual-in_err-cycles.result _ _ c.from_residual-in_err-cycles.ensures.1
    (λ n. subst (λ (parts : List Part). IsSolveFault parts c.in_err-cycles.field-0.0)
    (c.as_slice-parts.ensures ∙ ap (λ (q : Question). q.parts) c.question.view_is) (c.in_err-cycles.ensures n))
