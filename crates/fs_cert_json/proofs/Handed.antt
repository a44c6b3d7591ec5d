-- Errors that are handed on.
use Rattle.std.proofs.Common.{◌≡◌, Result, Ok, Err, ap}
use Rattle.std.specs.Result.{IsErrAnd, IsErrOf}
use Rattle.fs_kinds.specs.declared.fault.Fault.{Fault}

-- what this fault means to the callee it means to the caller
pub fault-handed : {T U P : Type 0} (r : Result T Fault) (fault named : Fault) → IsErrAnd r (λ f. f ≡ fault) → (IsErrOf {T = U} (Err fault) named → P) → IsErrOf r named → P
fault-handed (Ok x) fault named same bad is = absurd same
fault-handed (Err f) fault named same bad is = let e : fault ≡ named = cc in bad (ap (λ g. Err g) e)
