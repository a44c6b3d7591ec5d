use Rattle.std.proofs.Common.{subst}
use Rattle.fs_check_certificate.specs.Checks.{IsCheckVerdict}
use Rattle.fs_app_solve_and_check.proofs.CheckFaults.{if_ok}
use Rattle.fs_app_solve_and_check.proofs.check_answer.verdict_output.Goals as goal

pub returns-in-Yes-clause-object : goal.returns-in-Yes-clause-object
returns-in-Yes-clause-object c = if_ok _ _ c.yes_output.result c.yes_output.ensures.object
    (λ made shown t prices said bounded verdict. shown t prices said bounded (subst (IsCheckVerdict t prices said) c.in-Yes.is verdict))

pub returns-in-No-clause-object : goal.returns-in-No-clause-object
returns-in-No-clause-object c = if_ok _ _ c.refusal.result c.refusal.ensures.object
    (λ made shown t prices said bounded verdict. shown t prices said bounded (subst (IsCheckVerdict t prices said) c.in-No.is verdict))
