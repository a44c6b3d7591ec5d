-- Faults of candidates, and clauses of answers.
use Rattle.std.proofs.Common.{◌≡◌, Result, Ok, Err, OnOk, IfErr, sym, subst}
use Rattle.std.specs.Result.{IsErrAnd}
use Rattle.fs_model.specs.declared.test.Test.{Test}
use Rattle.fs_kinds.specs.declared.fault.Fault.{Fault}
use Rattle.fs_kinds.specs.declared.fault.Fault.TheVariants as fault
use Rattle.fs_model.specs.TooMany.{IsRunFault}
use Rattle.fs_cert_evidence.specs.CandidateFaults.{HasTooMany, IsCandidateFault}

pub on_ok : {T E : Type 0} (r : Result T E) (P : Type 0) → P → OnOk r P
on_ok (Ok x) P p = p
on_ok (Err e) P p = tt

pub on_ok_from : {T E : Type 0} (r : Result T E) (P Q : Type 0) → (P → Q) → OnOk r P → OnOk r Q
on_ok_from (Ok x) P Q follows p = follows p
on_ok_from (Err e) P Q follows p = tt

-- what holds of the error handed on holds of the result
pub handed : {T : Type 0} (r : Result T Fault) (fault : Fault) (P : Fault → Type 0) → IsErrAnd r (λ f. f ≡ fault) → P fault → IfErr r P
handed (Ok x) fault P h p = tt
handed (Err f) fault P h p = subst P (sym h) p

-- too many candidates, where the runs have no fault
pub of_candidates : (t : Test) → ((f : Fault) → IsRunFault t f → ⊥) → (r : Fault) → (r ≡ fault.TooManyCandidates) × HasTooMany t → IsCandidateFault t r
of_candidates t clean r (same, many) = subst (IsCandidateFault t) (sym same) (clean, many)

-- no fault of runs and not too many candidates: no fault
pub no_fault : (t : Test) → ((f : Fault) → IsRunFault t f → ⊥) → (HasTooMany t → ⊥) → (f : Fault) → IsCandidateFault t f → ⊥
no_fault t clean few fault.TooManyCandidates met = few met.1
no_fault t clean few f met = clean f met
