-- Texts in UTF-8 that are cut at bytes of ASCII.
use Rattle.std.proofs.Common.{◌≡◌, ℕ, ◌+◌, ◌<◌, List, [], ◌∷◌, ◌++◌, length, take, get_or, refl, sym, ap, subst, arith}
use Rattle.std.specs.Str.{IsUtf8}
use Rattle.std.proofs.Math.Seq.{drop-append-add}
use Rattle.std.proofs.lemmas.Str.{IsUtf8-take, IsUtf8-drop, IsCharBoundary-before_ascii, IsCharBoundary-after_ascii}

at_front : (front rest : List ℕ) (x : ℕ) → get_or (front ++ x ∷ rest) (length front) 0 ≡ x
at_front [] rest x = refl
at_front (y ∷ front) rest x = at_front front rest x

front_taken : (front rest : List ℕ) → take (length front) (front ++ rest) ≡ front
front_taken [] rest = refl
front_taken (y ∷ front) rest = ap (λ l. y ∷ l) (front_taken front rest)

within : (front rest : List ℕ) (x : ℕ) → length front < length (front ++ x ∷ rest)
within [] rest x = omega arith
within (y ∷ front) rest x = let h = within front rest x in omega (arith, h)

-- what stands before a byte of ASCII
pub utf8_before : (front rest : List ℕ) (x : ℕ) → x < 128 → IsUtf8 (front ++ x ∷ rest) → IsUtf8 front
utf8_before front rest x low h =
    let here : get_or (front ++ x ∷ rest) (length front) 0 < 128 = subst (λ b. b < 128) (sym (at_front front rest x)) low in
    subst IsUtf8 (front_taken front (x ∷ rest)) (IsUtf8-take (front ++ x ∷ rest) (length front) h (IsCharBoundary-before_ascii (front ++ x ∷ rest) (length front) (within front rest x) here))

-- what comes after a byte of ASCII
pub utf8_after : (front rest : List ℕ) (x : ℕ) → x < 128 → IsUtf8 (front ++ x ∷ rest) → IsUtf8 rest
utf8_after front rest x low h =
    let here : get_or (front ++ x ∷ rest) (length front) 0 < 128 = subst (λ b. b < 128) (sym (at_front front rest x)) low in
    subst IsUtf8 (drop-append-add front (x ∷ rest) 1) (IsUtf8-drop (front ++ x ∷ rest) (length front + 1) h (IsCharBoundary-after_ascii (front ++ x ∷ rest) (length front) h (within front rest x) here))

-- what comes after a first byte of ASCII
pub utf8_tail : (rest : List ℕ) (x : ℕ) → x < 128 → IsUtf8 (x ∷ rest) → IsUtf8 rest
utf8_tail rest x low h = utf8_after [] rest x low h
