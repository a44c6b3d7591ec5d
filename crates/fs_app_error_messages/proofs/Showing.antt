-- Characters as they are shown.
use Rattle.std.proofs.Common.{◌≡◌, ℕ, ◌+◌, ◌-◌, ◌<◌, List, [], ◌∷◌, ◌++◌, append_assoc, true, false, zero, suc, refl, sym, ap, ◌∙◌, take, drop, length, get_or, arith}
use Rattle.std.proofs.lemmas.List.{at_drop_more}
use Rattle.fs_app_error_messages.specs.Places.{goes_on, shown_byte, shown}

shown_one : (b : ℕ) (bs : List ℕ) → goes_on b ≡ false → shown (b ∷ bs) ≡ shown_byte b ∷ shown bs
shown_one b bs e = rw e refl

pub shown_more : (bs : List ℕ) (i d : ℕ) → i < length bs → goes_on (get_or bs i d) ≡ false → shown (drop i bs) ≡ shown_byte (get_or bs i d) ∷ shown (drop (i + 1) bs)
shown_more bs i d h e = at_drop_more shown bs i d h ∙ shown_one (get_or bs i d) (drop (i + 1) bs) e

shown_none : (b : ℕ) (bs : List ℕ) → goes_on b ≡ true → shown (b ∷ bs) ≡ shown bs
shown_none b bs e = rw e refl

pub shown_same : (bs : List ℕ) (i d : ℕ) → i < length bs → goes_on (get_or bs i d) ≡ true → shown (drop i bs) ≡ shown (drop (i + 1) bs)
shown_same bs i d h e = at_drop_more shown bs i d h ∙ shown_none (get_or bs i d) (drop (i + 1) bs) e

pub cut_one : (cut x : ℕ) (rest : List ℕ) → 0 < cut → drop cut (x ∷ rest) ≡ drop (cut - 1) rest
cut_one zero x rest h = absurd (omega arith)
cut_one (suc n) x rest h = let e : n ≡ suc n - 1 = omega arith in ap (λ k. drop k rest) e

pub take_one : (room x : ℕ) (rest : List ℕ) → 0 < room → take room (x ∷ rest) ≡ x ∷ take (room - 1) rest
take_one zero x rest h = absurd (omega arith)
take_one (suc n) x rest h = let e : n ≡ suc n - 1 = omega arith in ap (λ k. x ∷ take k rest) e

-- one character more
pub pushed : (old new : List ℕ) (ch room cut x : ℕ) (rest : List ℕ) → new ≡ old ++ ch ∷ [] → ch ≡ x → cut ≡ 0 → 0 < room → new ++ take (room - 1) rest ≡ old ++ take room (drop cut (x ∷ rest))
pushed old new ch room cut x rest e f none some =
    ap (λ l. l ++ take (room - 1) rest) e ∙ append_assoc old (ch ∷ []) (take (room - 1) rest)
    ∙ ap (λ k. old ++ k ∷ take (room - 1) rest) f
    ∙ ap (λ l. old ++ l) (sym (take_one room x rest some) ∙ ap (λ n. take room (drop n (x ∷ rest))) (sym none))
