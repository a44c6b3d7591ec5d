use Rattle.std.proofs.Common.{◌≢◌, subst}
use Rattle.fs_kinds.specs.declared.fault.Fault.TheVariants.{Memory}
use Rattle.fs_model.specs.declared.test.Test.{Test}
use Rattle.fs_cert_evidence.specs.CandidateFaults.{IsCandidateFault}
use Rattle.fs_sites_search.proofs.Faults.{handed}
use Rattle.fs_sites_search.proofs.seats.judge_of.Goals as goal

pub returns-in_err-problem-clause-err : goal.returns-in_err-problem-clause-err
returns-in_err-problem-clause-err c =
    let fault = c.in_err-problem.field-0.0 in
    handed c.from_residual-in_err-problem.result _ _ c.from_residual-in_err-problem.ensures.1
    (subst (λ (t : Test). fault ≢ Memory → IsCandidateFault t fault) c.in_ok-test.ensures c.in_err-problem.ensures.err)
