-- Errors that are handed on.
use Rattle.std.proofs.Common.{◌≡◌, Result, Ok, Err, OnErr, ap}
use Rattle.std.specs.Result.{IsErrAnd, IsErrOf}
use Rattle.fs_kinds.specs.declared.fault.Fault.{Fault}
use Rattle.fs_kinds.specs.declared.fault.Fault.TheVariants.{BadWitness}

-- what holds in any case holds at an error
pub on_err : {T E P : Type 0} (r : Result T E) → P → OnErr r P
on_err (Ok x) p = tt
on_err (Err e) p = p

-- what a bad witness means to the callee it means to the caller
pub bad-handed : {T U P : Type 0} (r : Result T Fault) (fault : Fault) → IsErrAnd r (λ f. f ≡ fault) → (IsErrOf {T = U} (Err fault) BadWitness → P) → IsErrOf r BadWitness → P
bad-handed (Ok x) fault same bad is = absurd same
bad-handed (Err f) fault same bad is = let e : fault ≡ BadWitness = cc in bad (ap (λ g. Err g) e)
