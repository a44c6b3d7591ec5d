use Rattle.fs_check_certificate.specs.declared.certificate_verdict.CheckVerdict.TheVariants.{Yes}
use Rattle.fs_check_certificate.specs.Checks.{IsCheckVerdict}
use Rattle.std.proofs.Common.{subst}
use Rattle.fs_app_solve_and_check.proofs.CheckFaults.{if_ok}
use Rattle.fs_app_solve_and_check.proofs.check_answer.yes_output.Goals as goal

pub returns-in-Some-clause-object : goal.returns-in-Some-clause-object
returns-in-Some-clause-object c = if_ok _ _ c.fenced_output.result c.fenced_output.ensures.object
    (λ made shown t prices said bounded verdict. shown t prices said bounded
    (subst (λ a. IsCheckVerdict t prices said (Yes c.args.certificate.now a)) c.in-Some.is verdict))

pub returns-in-None-clause-object : goal.returns-in-None-clause-object
returns-in-None-clause-object c = if_ok _ _ c.none_output.result c.none_output.ensures.object
    (λ made shown t prices said bounded verdict. shown t prices said bounded
    (subst (λ a. IsCheckVerdict t prices said (Yes c.args.certificate.now a)) c.in-None.is verdict))

pub returns-in-Some-clause-answer : goal.returns-in-Some-clause-answer
returns-in-Some-clause-answer c = if_ok _ _ c.fenced_output.result c.fenced_output.ensures.answer
    (λ output shown t prices said bounded verdict. shown t prices said bounded
    (subst (λ a. IsCheckVerdict t prices said (Yes c.args.certificate.now a)) c.in-Some.is verdict))
