-- Answers that may be errors.
use Rattle.std.proofs.Common.{Result, Ok, Err, IfOk}

pub IfOk-both : {X Y : Type 0} (r : Result X Y) (P Q R : X → Type 0) → ((x : X) → P x → Q x → R x) → IfOk r P → IfOk r Q → IfOk r R
IfOk-both (Ok x) P Q R h p q = h x p q
IfOk-both (Err y) P Q R h p q = tt
