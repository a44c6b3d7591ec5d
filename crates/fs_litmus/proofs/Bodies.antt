-- Bodies: a text has one at most, and none of its own where none begins in a later line.
use Rattle.std.proofs.Common.{◌≡◌, ℕ, ◌+◌, List, false, Some, refl, subst}
use Rattle.fs_litmus_tokens.specs.Bytes.{begins}
use Rattle.fs_litmus.specs.Title.{after_line, unindented, IsBody, here, later}

pub body_once : {bs a b : List ℕ} {l m n : ℕ} → IsBody bs l a m → IsBody bs l b n → (a ≡ b) × (m ≡ n)
body_once (here e) (here f) = (refl, refl)
body_once (here e) (later f g h) = absurd (cc)
body_once (later f g h) (here e) = absurd (cc)
body_once {b = b} {n = n} (later {rest = rest} {line = line} e f h) (later {rest = other} g i k) =
    let same : other ≡ rest = cc in
    body_once h (subst (λ r. IsBody r (line + 1) b n) same k)

-- where the first line begins no block, one begins below it
pub below : {bs rest body : List ℕ} {line at : ℕ} → begins 123 (unindented bs) ≡ false → after_line bs ≡ Some rest → IsBody bs line body at → IsBody rest (line + 1) body at
below e f (here g) = absurd (cc)
below {rest = rest} {body = body} {line = line} {at = at} e f (later {rest = other} g i k) =
    let same : other ≡ rest = cc in
    subst (λ r. IsBody r (line + 1) body at) same k
