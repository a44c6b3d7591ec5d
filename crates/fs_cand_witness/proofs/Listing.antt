-- Lists that are made by one pass over another.
use Rattle.std.proofs.Common.{◌≡◌, ℕ, zero, suc, ◌+◌, ◌<◌, ◌==◌, ◌||◌, ◌&&◌, Bool, true, false, Option, None, Some, List, [], ◌∷◌, ◌++◌, length, take, get_or, inl, inr, refl, sym, ◌∙◌, ap, arith}
use Rattle.std.specs.List.{filter_map}
use Rattle.std.proofs.lemmas.Bool.{cases_eq, eq-eqb, ne_eqb}
use Rattle.std.proofs.lemmas.List.{take_more}
use Rattle.std.proofs.lemmas.List.Elements.{filter_map-append}
use Rattle.fs_model.specs.Numbers.{has_number, stands_before}
use Rattle.fs_model.proofs.ListedNumbers.{has-here, has-later}
use Rattle.fs_model.proofs.NumberOrders.{before-here, before-later, before-second}
use Rattle.fs_cand_witness.specs.Edges.{has_bit}

-- ---- what a test gives of the items

module _ {X Y : Type 0} (h : X → Option Y) (xs : List X) (i : ℕ) (x : X) (low : i < length xs) (is : x ≡ get_or xs i x) where
  one_more : filter_map h (take (i + 1) xs) ≡ filter_map h (take i xs) ++ filter_map h (x ∷ [])
  one_more =
      ap (filter_map h) (take_more xs i x low ∙ ap (λ z. take i xs ++ z ∷ []) (sym is)) ∙ filter_map-append h (take i xs) (x ∷ [])

  -- it gives something of the next one
  pub given : (y : Y) (old new : List Y) → h x ≡ Some y → old ≡ filter_map h (take i xs) → new ≡ old ++ y ∷ []
      → new ≡ filter_map h (take (i + 1) xs)
  given y old new some was now = now ∙ (ap (λ ys. ys ++ y ∷ []) was ∙ sym (one_more ∙ rw some refl))

  -- it gives nothing
  pub passed : (old : List Y) → h x ≡ None → old ≡ filter_map h (take i xs) → old ≡ filter_map h (take (i + 1) xs)
  passed old none was = was ∙ sym (one_more ∙ rw none (append-nil (filter_map h (take i xs))))
    where
      append-nil : (ys : List Y) → ys ++ [] ≡ ys
      append-nil [] = refl
      append-nil (y ∷ ys) = ap (λ zs. y ∷ zs) (append-nil ys)

-- ---- rows of an order, from its end on

-- a number that stands there
pub has_at : (xs : List ℕ) (i : ℕ) → i < length xs → has_number xs (get_or xs i 0) ≡ true
has_at [] i low = absurd (omega (arith, low))
has_at (x ∷ xs) zero low = has-here x xs x refl
has_at (x ∷ xs) (suc i) low = has-later x xs (get_or xs i 0) (has_at xs i (omega (arith, low)))

or_true : (u v : Bool) → (u ≡ true → v ≡ true) → (u || v) ≡ v
or_true true v f = sym (f refl)
or_true false v f = refl

or_false : (b : Bool) → (b || false) ≡ b
or_false true = refl
or_false false = refl

or_swap : (u v : Bool) → (u || v) ≡ (v || u)
or_swap true true = refl
or_swap true false = refl
or_swap false true = refl
or_swap false false = refl

eq_swap : (a b : ℕ) → (a == b) ≡ (b == a)
eq_swap a b = elim (cases_eq a b) [
  | inl same ↦ eq-eqb a b same ∙ sym (eq-eqb b a (sym same))
  | inr other ↦ ne_eqb a b other ∙ sym (ne_eqb b a (λ e. other (sym e)))
]

-- the row of the number before the rest, whose numbers come after it
pub row_before : (v : ℕ) (rest : List ℕ) (later a b : ℕ) (old : Bool) → old ≡ stands_before rest a b → has_bit later b ≡ has_number rest b
    → (old || ((a == v) && has_bit later b)) ≡ stands_before (v ∷ rest) a b
row_before v rest later a b old was bits = elim (cases_eq v a) [
  | inl same ↦ rw (was, bits, eq-eqb a v (sym same))
      (or_true (stands_before rest a b) (has_number rest b) (before-second rest a b) ∙ sym (before-here v rest a b same))
  | inr other ↦ rw (was, ne_eqb a v (λ e. other (sym e))) (or_false (stands_before rest a b) ∙ sym (before-later v rest a b other))
]

-- and its bit
pub bit_before : (v : ℕ) (rest : List ℕ) (a : ℕ) (old : Bool) → old ≡ has_number rest a → (old || (a == v)) ≡ has_number (v ∷ rest) a
bit_before v rest a old was = rw was (or_swap (has_number rest a) (a == v) ∙ ap (λ b. b || has_number rest a) (eq_swap a v))
