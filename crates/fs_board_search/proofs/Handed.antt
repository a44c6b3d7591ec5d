-- Which fault is handed on.
use Rattle.std.proofs.Common.{◌≡◌, ◌≢◌, Result, Ok, Err, IfErr, sym, subst}
use Rattle.std.specs.Result.{IsErrAnd}
use Rattle.fs_kinds.specs.declared.fault.Fault.{Fault}
use Rattle.fs_kinds.specs.declared.fault.Fault.TheVariants.{Memory}
use Rattle.fs_model.specs.declared.test.Test.{Test}
use Rattle.fs_cert_evidence.specs.CandidateFaults.{IsCandidateFault}

-- what holds of the error handed on holds of the result
pub handed : {T : Type 0} (r : Result T Fault) (fault : Fault) (P : Fault → Type 0) → IsErrAnd r (λ f. f ≡ fault) → P fault → IfErr r P
handed (Ok x) fault P h p = tt
handed (Err f) fault P h p = subst P (sym h) p

-- so of a fault of the candidates of what is equal
pub candidates-handed : {T : Type 0} (r : Result T Fault) (fault : Fault) (t u : Test) → t ≡ u → IsErrAnd r (λ f. f ≡ fault)
    → (fault ≢ Memory → IsCandidateFault t fault) → IfErr r (λ f. f ≢ Memory → IsCandidateFault u f)
candidates-handed r fault t u same is why =
    handed r fault (λ f. f ≢ Memory → IsCandidateFault u f) is
    (λ other. subst (λ (x : Test). IsCandidateFault x fault) same (why other))
