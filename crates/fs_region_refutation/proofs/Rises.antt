-- Lists of numbers that rise: two with the same numbers are the same.
use Rattle.std.proofs.Common.{◌≡◌, ℕ, zero, suc, ◌+◌, ◌<◌, ◌≤◌, Bool, true, false, ◌||◌, List, [], ◌∷◌, length, inl, inr, refl, sym, ◌∙◌, ap, subst, arith, ltb, eqb}
use Rattle.std.specs.Prelude.{if◌then◌else◌, slice_index}
use Rattle.std.specs.List.{dedup, list_any}
use Rattle.std.specs.List.Sorted.{IsPermutation, IsSorted, IsStrictlyIncreasing}
use Rattle.std.specs.Ordering.{nat_cmp}
use Rattle.std.proofs.lemmas.Bool.{false≢true, cases_Bool, cases_lt, or_cases, eqb-true, eqb-false, eq-eqb, ltb-true, ltb-false}
use Rattle.std.proofs.lemmas.List.Kept.{Contains-dedup_nat, Contains-from_dedup}
use Rattle.std.proofs.lemmas.List.Sorted.{list_any-IsPermutation}
use Rattle.std.proofs.lemmas.Map.Keys.{IsStrictlyIncreasing-dedup}
use Rattle.fs_cert_evidence.specs.Splits.{insert, rising}
use Rattle.fs_verdict_laws.proofs.Lists.{any_in, any_from}

-- the list rises, from this number on
abbrev pub IsFrom : ℕ → List ℕ → Type 0
IsFrom n [] = Unit {0}
IsFrom n (x ∷ xs) = (n ≤ x) × IsFrom (x + 1) xs

abbrev has : List ℕ → ℕ → Bool
has xs k = list_any (λ n. eqb n k) xs

has_first : (x : ℕ) (xs : List ℕ) → has (x ∷ xs) x ≡ true
has_first x xs = rw (eq-eqb x x refl) refl

-- a number of it isn't less
low : (n : ℕ) (xs : List ℕ) (k : ℕ) → IsFrom n xs → has xs k ≡ true → n ≤ k
low n [] k from e = absurd (false≢true e)
low n (x ∷ xs) k from e = elim (or_cases (eqb x k) (has xs k) e) [
  | inl here ↦ (let first = from.0 in let same = eqb-true x k here in omega (arith, first, same))
  | inr later ↦ (let first = from.0 in let rest = low (x + 1) xs k from.1 later in omega (arith, first, rest))
]

not_below : (n : ℕ) (xs : List ℕ) (k : ℕ) → IsFrom n xs → k < n → has xs k ≡ false
not_below n xs k from below = elim (cases_Bool (has xs k)) [
  | inl e ↦ (let least = low n xs k from e in absurd (omega (arith, least, below)))
  | inr e ↦ e
]

heads : (x y : ℕ) (xs ys : List ℕ) → IsFrom (x + 1) xs → IsFrom (y + 1) ys → ((k : ℕ) → has (x ∷ xs) k ≡ has (y ∷ ys) k) → x ≡ y
heads x y xs ys up vp same =
    elim (or_cases (eqb y x) (has ys x) (sym (same x) ∙ has_first x xs)) [
      | inl here ↦ sym (eqb-true y x here)
      | inr later ↦ (elim (or_cases (eqb x y) (has xs y) (same y ∙ has_first y ys)) [
        | inl here ↦ eqb-true x y here
        | inr other ↦ (let a = low (y + 1) ys x vp later in let b = low (x + 1) xs y up other in absurd (omega (arith, a, b)))
      ])
    ]

tails : (x : ℕ) (xs ys : List ℕ) → IsFrom (x + 1) xs → IsFrom (x + 1) ys → ((k : ℕ) → has (x ∷ xs) k ≡ has (x ∷ ys) k) → (k : ℕ) → has xs k ≡ has ys k
tails x xs ys up vp same k = by_case (eqb x k) refl (same k)
  where
    by_case : (b : Bool) → eqb x k ≡ b → (b || has xs k) ≡ (b || has ys k) → has xs k ≡ has ys k
    by_case true e both =
        let is = eqb-true x k e in
        not_below (x + 1) xs k up (omega (arith, is)) ∙ sym (not_below (x + 1) ys k vp (omega (arith, is)))
    by_case false e both = both

pub same_list : (n : ℕ) (xs ys : List ℕ) → IsFrom n xs → IsFrom n ys → ((k : ℕ) → has xs k ≡ has ys k) → xs ≡ ys
same_list n [] [] up vp same = refl
same_list n [] (y ∷ ys) up vp same = absurd (false≢true (same y ∙ has_first y ys))
same_list n (x ∷ xs) [] up vp same = absurd (false≢true (sym (same x) ∙ has_first x xs))
same_list n (x ∷ xs) (y ∷ ys) up vp same =
    let head = heads x y xs ys up.1 vp.1 same in
    let wp : IsFrom (x + 1) ys = subst (λ m. IsFrom (m + 1) ys) (sym head) vp.1 in
    let alike : (k : ℕ) → has (x ∷ xs) k ≡ has (x ∷ ys) k = λ k. same k ∙ ap (λ m. has (m ∷ ys) k) (sym head) in
    ap (λ zs. x ∷ zs) (same_list (x + 1) xs ys up.1 wp (tails x xs ys up.1 wp alike)) ∙ ap (λ m. m ∷ ys) head

-- ---- the list that the definitions make

absorbed : (a b : Bool) → (a || b) ≡ (a || (a || b))
absorbed true b = refl
absorbed false b = refl

swapped : (a b c : Bool) → (b || (a || c)) ≡ (a || (b || c))
swapped true true c = refl
swapped true false c = refl
swapped false true c = refl
swapped false false c = refl

has_insert : (n : ℕ) (ms : List ℕ) (k : ℕ) → has (insert n ms) k ≡ (eqb n k || has ms k)
has_insert n [] k = refl
has_insert n (m ∷ ms) k = by_case (ltb n m) (eqb n m) refl (has_insert n ms k)
  where
    by_case : (b d : Bool) → eqb n m ≡ d → has (insert n ms) k ≡ (eqb n k || has ms k)
        → has (if b then n ∷ m ∷ ms else if d then m ∷ ms else m ∷ insert n ms) k ≡ (eqb n k || (eqb m k || has ms k))
    by_case true d e rest = refl
    by_case false true e rest =
        subst (λ i. (eqb m k || has ms k) ≡ (eqb i k || (eqb m k || has ms k))) (sym (eqb-true n m e)) (absorbed (eqb m k) (has ms k))
    by_case false false e rest = ap (λ b. eqb m k || b) rest ∙ swapped (eqb n k) (eqb m k) (has ms k)

has_rising : (ns : List ℕ) (k : ℕ) → has (rising ns) k ≡ has ns k
has_rising [] k = refl
has_rising (n ∷ ns) k = has_insert n (rising ns) k ∙ ap (λ b. eqb n k || b) (has_rising ns k)

above : (i j : ℕ) → j ≤ i → (i ≡ j → ⊥) → j + 1 ≤ i
above i j h differ = elim (cases_lt j i) [ inl less ↦ omega (arith, less) | inr other ↦ absurd (differ (omega (arith, h, other))) ]

insert_from : (l n : ℕ) (ms : List ℕ) → l ≤ n → IsFrom l ms → IsFrom l (insert n ms)
insert_from l n [] least from = (least, tt)
insert_from l n (m ∷ ms) least from = by_case (ltb n m) (eqb n m) refl refl (λ h. insert_from (m + 1) n ms h from.1)
  where
    by_case : (b d : Bool) → ltb n m ≡ b → eqb n m ≡ d → (m + 1 ≤ n → IsFrom (m + 1) (insert n ms))
        → IsFrom l (if b then n ∷ m ∷ ms else if d then m ∷ ms else m ∷ insert n ms)
    by_case true d e f rest = let below = ltb-true n m e in (least, (omega (arith, below), from.1))
    by_case false true e f rest = from
    by_case false false e f rest =
        let not_less = ltb-false n m e in let differ = eqb-false n m f in
        (from.0, rest (above n m not_less differ))

rising_from : (ns : List ℕ) → IsFrom 0 (rising ns)
rising_from [] = tt
rising_from (n ∷ ns) = insert_from 0 n (rising ns) (omega arith) (rising_from ns)

-- ---- the list that code makes

increasing_from : (n : ℕ) (xs : List ℕ) → IsStrictlyIncreasing xs → ((k : ℕ) → k < length xs → n ≤ slice_index xs k) → IsFrom n xs
increasing_from n [] up least = tt
increasing_from n (x ∷ xs) up least =
    (least 0 (omega arith), increasing_from (x + 1) xs (λ k h. up_more k h) (λ k h. after k h))
  where
    next : (k : ℕ) → k + 1 < length (x ∷ xs) → slice_index (x ∷ xs) k < slice_index xs k
    next k h = subst (λ m. slice_index (x ∷ xs) k < slice_index (x ∷ xs) m) (let e : k + 1 ≡ suc k = omega arith in e) (up k h)

    up_more : (k : ℕ) → k + 1 < length xs → slice_index xs k < slice_index xs (k + 1)
    up_more k h = subst (λ m. slice_index xs k < slice_index (x ∷ xs) m) (let e : suc k + 1 ≡ suc (k + 1) = omega arith in e) (up (suc k) (omega (arith, h)))

    after : (k : ℕ) → k < length xs → x + 1 ≤ slice_index xs k
    after zero h = let first = next 0 (omega (arith, h)) in omega (arith, first)
    after (suc k) h =
        let rest = after k (omega (arith, h)) in
        let more = next (suc k) (omega (arith, h)) in
        omega (arith, rest, more)

same_tests : (a b : Bool) → (a ≡ true → b ≡ true) → (b ≡ true → a ≡ true) → a ≡ b
same_tests true b f g = sym (f refl)
same_tests false true f g = g refl
same_tests false false f g = refl

has_dedup : (xs : List ℕ) (k : ℕ) → has (dedup eqb xs) k ≡ has xs k
has_dedup xs k = same_tests (has (dedup eqb xs) k) (has xs k)
    (λ e. let found = any_from (λ n. eqb n k) (dedup eqb xs) e in
    any_in (λ n. eqb n k) xs found.0 (Contains-from_dedup eqb xs found.0 found.1) found.2)
    (λ e. let found = any_from (λ n. eqb n k) xs e in
    any_in (λ n. eqb n k) (dedup eqb xs) found.0 (Contains-dedup_nat xs found.0 found.1) found.2)

-- sorted, and each once
pub rising_is : (ns sorted : List ℕ) → IsPermutation ns sorted → IsSorted nat_cmp sorted → dedup eqb sorted ≡ rising ns
rising_is ns sorted moved up =
    same_list 0 (dedup eqb sorted) (rising ns)
    (increasing_from 0 (dedup eqb sorted) (IsStrictlyIncreasing-dedup sorted up) (λ k h. omega arith))
    (rising_from ns)
    (λ k. has_dedup sorted k ∙ sym (list_any-IsPermutation (λ n. eqb n k) ns sorted moved) ∙ sym (has_rising ns k))
