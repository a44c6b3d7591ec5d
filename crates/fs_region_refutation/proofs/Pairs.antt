-- Pairs of an address and a word: sorted, each once, and searched by halving.
use Rattle.std.proofs.Common.{◌≡◌, ℕ, zero, suc, ◌+◌, ◌<◌, Bool, true, false, ◌||◌, ◌&&◌, Option, Some, None, Result, Ok, Err, List, [], ◌∷◌, map, length, filter, inl, inr, refl, sym, ◌∙◌, ap, subst, arith, tests}
use Rattle.std.specs.Prelude.{◌==◌, cond, slice_index_or, is_ok}
use Rattle.std.specs.Cmp.{IsTotalOrder, IsEquivalence}
use Rattle.std.specs.List.{cons_option, dedup, list_any, filter_map}
use Rattle.std.specs.List.Sorted.{IsPermutation, IsSorted, IsStrictlySortedBy, IsBinarySearchResult, IsSearchInRange}
use Rattle.std.specs.Ordering.{is_lt, is_eq, eq_by_cmp, ordering_reverse}
use Rattle.std.specs.declared.cmp.Ordering.{Ordering}
use Rattle.std.specs.declared.cmp.Ordering.TheVariants.{Less, Equal, Greater}
use Rattle.std.proofs.lemmas.Bool.{false≢true, cases_Bool, cases_lt, and_parts, and_right, eqb-true, eq-eqb}
use Rattle.std.proofs.lemmas.Cmp.{nat_cmp_total, nat_eq_equiv, on_total, on_equiv, then_total, and_equiv}
use Rattle.std.proofs.lemmas.List.Folds.{list_any_at}
use Rattle.std.proofs.lemmas.List.Kept.{Contains-dedup, Contains-from_dedup, IsStrictlySortedBy-dedup}
use Rattle.std.proofs.lemmas.List.Sorted.{list_any-IsPermutation, searchable_from_sorted}
use Rattle.fs_model.specs.Numbers.{is_same}
use Rattle.fs_verdict_laws.proofs.Lists.{any_in, any_from}
use Rattle.fs_region_refutation.specs.inner.Pairs.{both, is_among, by_pair}

abbrev Pair : Type 0
Pair = ℕ × ℕ

abbrev same : Pair → Pair → Bool
same one other = one.0 == other.0 && one.1 == other.1

total : IsTotalOrder by_pair
total = then_total (on_total (λ (p : Pair). p.0) nat_cmp_total) (on_total (λ (p : Pair). p.1) nat_cmp_total)

equal : IsEquivalence same
equal = and_equiv (on_equiv (λ (p : Pair). p.0) nat_eq_equiv) (on_equiv (λ (p : Pair). p.1) nat_eq_equiv)

ties : (one other : Pair) → same one other ≡ eq_by_cmp by_pair one other
ties one other = grind (arith, tests)

exact : (one other : Pair) → same one other ≡ true → one ≡ other
exact one other e =
    let parts = and_parts (one.0 == other.0) (one.1 == other.1) e in
    ap (λ n. (n, one.1)) (eqb-true one.0 other.0 parts.0) ∙ ap (λ (n : ℕ). (other.0, n)) (eqb-true one.1 other.1 parts.1)

-- ---- sorted, and each once

same_tests : (a b : Bool) → (a ≡ true → b ≡ true) → (b ≡ true → a ≡ true) → a ≡ b
same_tests true b f g = sym (f refl)
same_tests false true f g = g refl
same_tests false false f g = refl

pub among_dedup : (xs : List Pair) (pair : Option Pair) → is_among (dedup same xs) pair ≡ is_among xs pair
among_dedup xs None = refl
among_dedup xs (Some pair) =
    let test : Pair → Bool = λ other. same other pair in
    same_tests (list_any test (dedup same xs)) (list_any test xs)
    (λ e. let found = any_from test (dedup same xs) e in
    any_in test xs found.0 (Contains-from_dedup same xs found.0 found.1) found.2)
    (λ e. let found = any_from test xs e in
    any_in test (dedup same xs) found.0 (Contains-dedup equal exact xs found.0 found.1) found.2)

among_moved : (xs sorted : List Pair) → IsPermutation xs sorted → (pair : Option Pair) → is_among sorted pair ≡ is_among xs pair
among_moved xs sorted moved None = refl
among_moved xs sorted moved (Some pair) = sym (list_any-IsPermutation (λ other. same other pair) xs sorted moved)

pub among_once : (xs sorted : List Pair) → IsPermutation xs sorted → (pair : Option Pair) → is_among (dedup same sorted) pair ≡ is_among xs pair
among_once xs sorted moved pair = among_dedup sorted pair ∙ among_moved xs sorted moved pair

next_above : (x : Pair) (xs : List Pair) (d : Pair) → 1 < length (x ∷ xs) → IsStrictlySortedBy by_pair (x ∷ xs)
    → is_lt (by_pair (slice_index_or xs 0 d) x) ≡ false
unfolding IsStrictlySortedBy
next_above x [] d inside up = absurd (omega (arith, inside))
next_above x (y ∷ ys) d inside up = ap is_lt (total.antisymm y x ∙ ap ordering_reverse up.0.0)

rest_up : (x : Pair) (xs : List Pair) → IsStrictlySortedBy by_pair (x ∷ xs) → IsStrictlySortedBy by_pair xs
unfolding IsStrictlySortedBy
rest_up x xs up = up.1

from_strict : (xs : List Pair) → IsStrictlySortedBy by_pair xs → IsSorted by_pair xs
from_strict [] up k d least inside = absurd (omega (arith, inside))
from_strict (x ∷ xs) up zero d least inside = next_above x xs d inside up
from_strict (x ∷ xs) up (suc k) d least inside =
    subst (λ m. is_lt (by_pair (slice_index_or (x ∷ xs) m d) (slice_index_or xs k d)) ≡ false)
    (let e : suc (k + 1) ≡ suc k + 1 = omega arith in e)
    (from_strict xs (rest_up x xs up) k d (omega arith) (omega (arith, inside)))

pub sorted_once : (xs : List Pair) → IsSorted by_pair xs → IsSorted by_pair (dedup same xs)
sorted_once xs up = from_strict (dedup same xs) (IsStrictlySortedBy-dedup total ties xs up)

-- ---- searched

tied : (one other : Pair) → by_pair one other ≡ Equal → same one other ≡ true
tied one other e = ties one other ∙ ap is_eq e

not_tied : (one other : Pair) (o : Ordering) → by_pair one other ≡ o → is_eq o ≡ false → same one other ≡ true → ⊥
not_tied one other o e differ holds = false≢true (sym differ ∙ ap is_eq (sym e) ∙ sym (ties one other) ∙ holds)

pub searched : (xs : List Pair) (pair : Pair) (r : Result ℕ ℕ) → IsSearchInRange r (length xs) → IsBinarySearchResult (λ other. by_pair other pair) xs r
    → IsSorted by_pair xs → is_ok r ≡ is_among xs (Some pair)
searched xs pair (Ok i) inside is up =
    sym (list_any_at (λ other. same other pair) xs i pair inside (tied (slice_index_or xs i pair) pair (is pair)))
searched xs pair (Err i) inside parted up =
    let parts = parted (searchable_from_sorted total (λ x. x) xs pair up) in
    elim (cases_Bool (is_among xs (Some pair))) [
      | inl e ↦ (
          let found = any_from (λ other. same other pair) xs e in
          let k = found.1.0 in
          let holds : same (slice_index_or xs k found.0) pair ≡ true = ap (λ other. same other pair) found.1.2 ∙ found.2 in
          elim (cases_lt k i) [
            | inl before ↦ absurd (not_tied (slice_index_or xs k found.0) pair Less (parts.0 k found.0 (omega arith) before) refl holds)
            | inr after ↦ absurd (not_tied (slice_index_or xs k found.0) pair Greater (parts.1 k found.0 after found.1.1) refl holds)
          ])
      | inr e ↦ sym e
    ]

among_no : (pairs : List Pair) → length pairs ≡ 0 → (pair : Option Pair) → is_among pairs pair ≡ false
among_no [] none None = refl
among_no [] none (Some pair) = refl
among_no (x ∷ xs) none pair = absurd (omega (arith, none))

-- none has one of no pairs
pub kept_none : {X : Type 0} (h : X → Option Pair) (pairs : List Pair) → length pairs ≡ 0 → (xs : List X)
    → [] ≡ filter (λ x. is_among pairs (h x)) xs
kept_none h pairs none [] = refl
kept_none h pairs none (x ∷ xs) =
    kept_none h pairs none xs ∙ ap (λ b. cond b (x ∷ filter (λ x. is_among pairs (h x)) xs) (filter (λ x. is_among pairs (h x)) xs)) (sym (among_no pairs none (h x)))

-- ---- what agrees with some of the others

no_same : (n : Option ℕ) → is_same n None ≡ false
no_same None = refl
no_same (Some n) = refl

equal_back : (n m : ℕ) → (n == m) ≡ (m == n)
equal_back n m =
    same_tests (n == m) (m == n) (λ e. eq-eqb m n (sym (eqb-true n m e))) (λ e. eq-eqb n m (sym (eqb-true m n e)))

same_back : (n m : Option ℕ) → is_same n m ≡ is_same m n
same_back None None = refl
same_back None (Some m) = refl
same_back (Some n) None = refl
same_back (Some n) (Some m) = equal_back n m

among_first : (p q a w : Option ℕ) (rest : List Pair)
    → is_among (cons_option (both p q) rest) (both a w) ≡ ((is_same p a && is_same q w) || is_among rest (both a w))
among_first (Some p) (Some q) (Some a) (Some w) rest = refl
among_first (Some p) None (Some a) (Some w) rest = ap (λ b. b || is_among rest (Some (a, w))) (sym (and_right (p == a) false refl))
among_first None q (Some a) (Some w) rest = refl
among_first p q None w rest = ap (λ b. (b && is_same q w) || false) (sym (no_same p))
among_first p q (Some a) None rest = ap (λ b. b || false) (sym (and_right (is_same p (Some a)) (is_same q None) (no_same q)))

among_none : (a w : Option ℕ) → is_among [] (both a w) ≡ false
among_none None w = refl
among_none (Some a) None = refl
among_none (Some a) (Some w) = refl

module _ {X : Type 0} (address word : X → Option ℕ) (a w : Option ℕ) where
  abbrev listed : List X → List Pair
  listed = filter_map (λ x. both (address x) (word x))

  pub among_others : (xs : List X) → is_among (listed xs) (both a w) ≡ list_any (λ x. is_same (address x) a && is_same (word x) w) xs
  among_others [] = among_none a w
  among_others (x ∷ xs) =
      among_first (address x) (word x) a w (listed xs)
      ∙ ap (λ b. (is_same (address x) a && is_same (word x) w) || b) (among_others xs)

  alike : (x : X) → (is_same (address x) a && is_same (word x) w) ≡ (is_same a (address x) && is_same w (word x))
  alike x =
      ap (λ b. b && is_same (word x) w) (same_back (address x) a)
      ∙ ap (λ b. is_same a (address x) && b) (same_back (word x) w)

  any_back : (xs : List X) → list_any (λ x. is_same (address x) a && is_same (word x) w) xs ≡ list_any (λ x. is_same a (address x) && is_same w (word x)) xs
  any_back [] = refl
  any_back (x ∷ xs) =
      ap (λ b. b || list_any (λ x. is_same (address x) a && is_same (word x) w) xs) (alike x)
      ∙ ap (λ b. (is_same a (address x) && is_same w (word x)) || b) (any_back xs)

  pub among_others_back : (xs : List X) → is_among (listed xs) (both a w) ≡ list_any (λ x. is_same a (address x) && is_same w (word x)) xs
  among_others_back xs = among_others xs ∙ any_back xs

-- ---- lists

pub pairs_seen : {X Y : Type 0} (f : X → Y) (h : Y → Option Pair) (xs : List X) → filter_map (λ x. h (f x)) xs ≡ filter_map h (map f xs)
pairs_seen f h [] = refl
pairs_seen f h (x ∷ xs) = ap (cons_option (h (f x))) (pairs_seen f h xs)

pub filter_alike : {X : Type 0} (p q : X → Bool) → ((x : X) → p x ≡ q x) → (xs : List X) → filter p xs ≡ filter q xs
filter_alike p q e [] = refl
filter_alike p q e (x ∷ xs) = ap (λ b. cond b (x ∷ filter p xs) (filter p xs)) (e x) ∙ ap (λ ys. cond (q x) (x ∷ ys) ys) (filter_alike p q e xs)
