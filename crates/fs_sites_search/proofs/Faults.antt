-- Faults that are handed on.
use Rattle.std.proofs.Common.{◌≡◌, Result, Ok, Err, IfErr, sym, subst}
use Rattle.std.specs.Result.{IsErrAnd}
use Rattle.fs_kinds.specs.declared.fault.Fault.{Fault}

-- what holds of the error handed on holds of the result
pub handed : {T : Type 0} (r : Result T Fault) (fault : Fault) (P : Fault → Type 0)
    → IsErrAnd r (λ f. f ≡ fault) → P fault → IfErr r P
handed (Ok x) fault P h p = tt
handed (Err f) fault P h p = subst P (sym h) p
