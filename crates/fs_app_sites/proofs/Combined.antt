-- What follows from two clauses on an answer.
use Rattle.std.proofs.Common.{Result, Ok, Err, IfOk}

pub if-both : {T E : Type 0} (P Q R : T → Type 0) (r : Result T E) → IfOk r P → IfOk r Q → ((x : T) → P x → Q x → R x) → IfOk r R
if-both P Q R (Ok x) p q f = f x p q
if-both P Q R (Err e) p q f = tt
