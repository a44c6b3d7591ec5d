-- A text written in parts.
use Rattle.std.proofs.Common.{◌≡◌, ℕ, ◌+◌, ◌-◌, ◌≤◌, List, ◌++◌, length, take, drop, sym, subst, ◌∙◌, ap, arith, Option}
use Rattle.std.proofs.lemmas.List.{take_all, length-drop}
use Rattle.std.proofs.Math.Seq.{take-add}
use Rattle.std.proofs.KnownBytes.{Appends-trans}
use Rattle.std.specs.Io.KnownBytes.{Appends}

-- what is left of the text is all behind the part that stands written
pub rest_of : (text : List ℕ) (written : ℕ) → take (length text - written) (drop written text) ≡ drop written text
rest_of text written =
    let within : length (drop written text) ≤ length text - written = omega (arith, length-drop written text) in
    take_all (length text - written) (drop written text) within

-- a write of n bytes of the rest makes the part longer by n
pub Appends-more : (old mid new : Option (List ℕ)) (text : List ℕ) (written n : ℕ)
    → Appends old mid (take written text) → Appends mid new (take n (take (length text - written) (drop written text)))
    → Appends old new (take (written + n) text)
Appends-more old mid new text written n before now =
    let joined : take written text ++ take n (take (length text - written) (drop written text)) ≡ take (written + n) text =
    ap (λ rest. take written text ++ take n rest) (rest_of text written) ∙ sym (take-add written n text) in
    subst (Appends old new) joined (Appends-trans old mid new _ _ before now)

-- it is no longer than the text
pub within_text : (text : List ℕ) (written n : ℕ) → written ≤ length text → n ≤ length (take (length text - written) (drop written text)) → written + n ≤ length text
within_text text written n start taken =
    let taken' : n ≤ length (drop written text) = subst (λ rest. n ≤ length rest) (rest_of text written) taken in
    omega (arith, length-drop written text)
