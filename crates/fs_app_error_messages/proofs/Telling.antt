-- What is said of a text that was made.
use Rattle.std.proofs.Common.{◌≡◌, ℕ, List, Result, Ok, Err, IfOk, sym, subst}

pub told : {S E : Type 0} (bytes_of : S → List ℕ) (text : List ℕ) (M : List ℕ → Type 0) (r : Result S E) → M text → IfOk r (λ t. bytes_of t ≡ text) → IfOk r (λ t. M (bytes_of t))
told bytes_of text M (Ok t) m e = subst M (sym e) m
told bytes_of text M (Err e) m h = tt
