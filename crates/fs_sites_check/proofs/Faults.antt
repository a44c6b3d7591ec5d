-- Faults that are handed on.
use Rattle.std.proofs.Common.{◌≡◌, Result, Ok, Err, IfErr, sym, subst}
use Rattle.std.specs.Result.{IsErrAnd}
use Rattle.fs_kinds.specs.declared.fault.Fault.{Fault}
use Rattle.fs_kinds.specs.declared.fault.Fault.TheVariants.{TooManyCandidates}
use Rattle.fs_model.specs.declared.test.Test.{Test}
use Rattle.fs_model.specs.TooMany.{IsRunFault}
use Rattle.fs_cert_evidence.specs.CandidateFaults.{IsCandidateFault}

-- what holds of the error handed on holds of the result
pub handed : {T : Type 0} (r : Result T Fault) (fault : Fault) (P : Fault → Type 0)
    → IsErrAnd r (λ f. f ≡ fault) → P fault → IfErr r P
handed (Ok x) fault P h p = tt
handed (Err f) fault P h p = subst P (sym h) p

-- a fault of the test's runs is one of its candidates
pub of-runs : (t : Test) (f : Fault) → IsRunFault t f → IsCandidateFault t f
of-runs t TooManyCandidates h = absurd h.met
of-runs t f h = h
