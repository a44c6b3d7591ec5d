use Rattle.std.proofs.Common.{◌≡◌, ◌≢◌, ◌∙◌, IfErr, subst}
use Rattle.std.specs.Arc.{arc_value}
use Rattle.fs_kinds.specs.declared.fault.Fault.TheVariants.{Memory}
use Rattle.fs_model.specs.declared.test.Test.{Test}
use Rattle.fs_cert_evidence.specs.CandidateFaults.{IsCandidateFault}
use Rattle.fs_app_place_and_order.proofs.Faults.{IfErr-handed}
use Rattle.fs_app_test.proofs.judged.verdict.Goals as goal

pub returns-in_err-problem-clause-err : goal.returns-in_err-problem-clause-err
returns-in_err-problem-clause-err c =
    let fault = c.in_err-problem.field-0.0 in
    IfErr-handed c.from_residual-in_err-problem.result _ _ c.from_residual-in_err-problem.ensures.1
    (subst (λ (t : Test). fault ≢ Memory → IsCandidateFault t fault) c.in_ok-try_clone.ensures c.in_err-problem.ensures.err)

pub returns-clause-err : goal.returns-clause-err
returns-clause-err c =
    let asked : c.new-judge.result ≡ arc_value c.args.test.now =
    c.new-judge.ensures ∙ c.in_ok-new.ensures.ok ∙ c.in_ok-problem.ensures.value ∙ c.in_ok-try_clone.ensures in
    subst (λ (t : Test). IfErr c.verdict.result (λ f. f ≢ Memory → IsCandidateFault t f)) asked c.verdict.ensures.err
