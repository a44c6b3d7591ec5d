-- A word is text.
use Rattle.std.proofs.Common.{◌≡◌, ℕ, zero, suc, ◌+◌, ◌<◌, List, [], ◌∷◌, Bool, true, false, cond, refl, subst, take, arith, lit<}
use Rattle.std.proofs.lemmas.Bool.Decides.{nat_tests}
use Rattle.std.specs.List.{prefix_len}
use Rattle.std.specs.Str.{IsAscii, IsUtf8}
use Rattle.std.proofs.lemmas.Str.{IsUtf8-from_ascii}
use Rattle.std.proofs.lemmas.Grind.{common_steps}
use Rattle.fs_litmus_tokens.specs.Bytes.{is_letter}

letter_below : (b : ℕ) → is_letter b ≡ true → b < 128
letter_below b e = grind (arith, nat_tests, common_steps)

cons_ascii : (b : ℕ) (bs : List ℕ) → b < 128 → IsAscii bs → IsAscii (b ∷ bs)
cons_ascii b bs h k zero = h
cons_ascii b bs h k (suc i) = k i

nil_ascii : IsAscii []
nil_ascii i = lit< tt

step : (b : ℕ) (bs : List ℕ) (r : Bool) → is_letter b ≡ r → IsAscii (take (prefix_len is_letter bs) bs) → IsAscii (take (cond r (1 + prefix_len is_letter bs) 0) (b ∷ bs))
step b bs true e h =
    let same : suc (prefix_len is_letter bs) ≡ 1 + prefix_len is_letter bs = omega arith in
    subst (λ n. IsAscii (take n (b ∷ bs))) same (cons_ascii b _ (letter_below b e) h)
step b bs false e h = nil_ascii

pub word_ascii : (bs : List ℕ) → IsAscii (take (prefix_len is_letter bs) bs)
word_ascii [] = nil_ascii
word_ascii (b ∷ bs) = step b bs (is_letter b) refl (word_ascii bs)

pub word_utf8 : (bs : List ℕ) → IsUtf8 (take (prefix_len is_letter bs) bs)
word_utf8 bs = IsUtf8-from_ascii _ (word_ascii bs)
