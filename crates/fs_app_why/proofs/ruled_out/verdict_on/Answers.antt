use Rattle.std.proofs.Common.{◌≡◌, ◌≢◌, ◌∙◌, IfErr, IfOk, subst}
use Rattle.std.specs.Arc.{arc_value}
use Rattle.fs_kinds.specs.declared.fault.Fault.TheVariants.{Memory}
use Rattle.fs_model.specs.declared.test.Test.{Test}
use Rattle.fs_cert_evidence.specs.CandidateFaults.{IsCandidateFault}
use Rattle.fs_judge.specs.Verdicts.{IsVerdict}
use Rattle.fs_app_place_and_order.proofs.Faults.{IfErr-handed}
use Rattle.fs_app_why.proofs.ruled_out.verdict_on.Goals as goal

pub returns-in_err-problem-clause-err : goal.returns-in_err-problem-clause-err
returns-in_err-problem-clause-err c =
    let fault = c.in_err-problem.field-0.0 in
    IfErr-handed c.from_residual-in_err-problem.result _ _ c.from_residual-in_err-problem.ensures.1
    (subst (λ (t : Test). fault ≢ Memory → IsCandidateFault t fault) c.in_ok-try_clone.ensures c.in_err-problem.ensures.err)

pub returns-clause-ok : goal.returns-clause-ok
returns-clause-ok c =
    let asked : c.in_ok-problem.problem ≡ arc_value c.args.test.now = c.in_ok-problem.ensures.value ∙ c.in_ok-try_clone.ensures in
    subst (λ (t : Test). IfOk c.judged.result (IsVerdict t c.args.placement.now)) asked c.judged.ensures.ok

pub returns-clause-err : goal.returns-clause-err
returns-clause-err c =
    let asked : c.in_ok-problem.problem ≡ arc_value c.args.test.now = c.in_ok-problem.ensures.value ∙ c.in_ok-try_clone.ensures in
    subst (λ (t : Test). IfErr c.judged.result (λ f. f ≢ Memory → IsCandidateFault t f)) asked c.judged.ensures.err
