-- What holds of an answer or a fault.
use Rattle.std.proofs.Common.{◌≡◌, sym, subst, Result, Ok, Err, IfOk, IfErr}
use Rattle.std.specs.Result.{IsErrAnd}
use Rattle.fs_kinds.specs.declared.fault.Fault.{Fault}

pub handed : {T : Type 0} (r : Result T Fault) (fault : Fault) (P : Fault → Type 0)
    → IsErrAnd r (λ f. f ≡ fault) → P fault → IfErr r P
handed (Ok x) fault P h p = tt
handed (Err f) fault P h p = subst P (sym h) p

pub if_ok : {T E : Type 0} (P Q : T → Type 0) (r : Result T E) → IfOk r P → ((x : T) → P x → Q x) → IfOk r Q
if_ok P Q (Ok x) p f = f x p
if_ok P Q (Err e) p f = tt

pub both_ok : {T E : Type 0} (P Q R : T → Type 0) (r : Result T E) → IfOk r P → IfOk r Q → ((x : T) → P x → Q x → R x) → IfOk r R
both_ok P Q R (Ok x) p q f = f x p q
both_ok P Q R (Err e) p q f = tt
