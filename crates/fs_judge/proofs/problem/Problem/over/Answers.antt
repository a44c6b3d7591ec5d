use Rattle.std.proofs.Common.{◌≢◌, subst}
use Rattle.fs_kinds.specs.declared.fault.Fault.TheVariants.{Memory}
use Rattle.fs_model.specs.declared.test.Test.{Test}
use Rattle.fs_cert_evidence.specs.CandidateFaults.{IsCandidateFault}
use Rattle.fs_cand_listing.proofs.Faults.{handed}
use Rattle.fs_judge.proofs.problem.Problem.over.Goals as goal

pub returns-in_err-hunter-clause-err : goal.returns-in_err-hunter-clause-err
returns-in_err-hunter-clause-err c =
    let fault = c.in_err-hunter.field-0.0 in
    handed c.from_residual.result _ (λ f. f ≢ Memory → IsCandidateFault c.args.test.value f) c.from_residual.ensures.1
    (subst (λ (t : Test). fault ≢ Memory → IsCandidateFault t fault) c.requires.same c.in_err-hunter.ensures.err)
