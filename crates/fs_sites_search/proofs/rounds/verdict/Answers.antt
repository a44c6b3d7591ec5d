use Rattle.std.proofs.Common.{◌≢◌, IfErr, subst}
use Rattle.fs_kinds.specs.declared.fault.Fault.TheVariants.{Memory}
use Rattle.fs_model.specs.declared.test.Test.{Test}
use Rattle.fs_cert_evidence.specs.CandidateFaults.{IsCandidateFault}
use Rattle.fs_sites_search.proofs.rounds.verdict.Goals as goal

pub returns-clause-err : goal.returns-clause-err
returns-clause-err c =
    subst (λ (t : Test). IfErr c.verdict.result (λ f. f ≢ Memory → IsCandidateFault t f)) c.requires.same c.verdict.ensures.err
