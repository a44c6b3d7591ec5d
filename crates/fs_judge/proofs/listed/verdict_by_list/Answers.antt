use Rattle.std.proofs.Common.{◌≢◌, subst}
use Rattle.fs_kinds.specs.declared.fault.Fault.TheVariants.{Memory}
use Rattle.fs_model.specs.declared.test.Test.{Test}
use Rattle.fs_cert_evidence.specs.CandidateFaults.{IsCandidateFault}
use Rattle.fs_cand_listing.proofs.Faults.{handed}
use Rattle.fs_judge.specs.inner.Findings.{IsSurvey}
use Rattle.fs_judge.proofs.listed.verdict_by_list.Goals as goal

pub returns-in_err-showing-clause-err : goal.returns-in_err-showing-clause-err
returns-in_err-showing-clause-err c =
    handed c.from_residual-in_err-showing.result _ (λ f. f ≢ Memory → IsCandidateFault c.args.test.now.value f) c.from_residual-in_err-showing.ensures.1
    (subst (λ (t : Test). c.in_err-showing.field-0.0 ≢ Memory → IsCandidateFault t c.in_err-showing.field-0.0) c.in_ok-try_clone.ensures c.in_err-showing.ensures.err)

pub returns-clause-ok : goal.returns-clause-ok
returns-clause-ok c =
    let t = c.args.test.now.value in
    let p = c.args.placement.now in
    let survey = subst (IsSurvey t p) c.in-Cycles.is
    (subst (λ (u : Test). IsSurvey u p c.in_ok-witness.field-0) c.deref.ensures c.in_ok-witness.ensures.ok) in
    c.forbidden.ensures.ok t survey.0 survey.1
