-- Which of two placements is better: a total order of those over the same slots.
use Rattle.std.proofs.Common.{◌≡◌, ◌⊎◌, ℕ, ◌<◌, ◌==◌, nat_lt, Bool, true, false, ◌&&◌, ◌||◌, Option, None, Some, List, [], ◌∷◌, inl, inr, refl, sym, ap, ap₂, arith}
use Rattle.std.specs.Prelude.{drop, slice_index_or}
use Rattle.std.proofs.lemmas.Bool.{and_parts, or_cases, eqb-true, ltb-true, false≢true, cases_Bool}
use Rattle.std.proofs.lemmas.Bool.Decides.{nat_tests}
use Rattle.fs_kinds.specs.declared.kind.Kind.{Kind}
use Rattle.fs_kinds.specs.declared.placement.Entry.{Entry}
use Rattle.fs_kinds.specs.declared.slot.Slot.{Slot}
use Rattle.fs_kinds.specs.Placement.{slots_of, rank, precedes}
use Rattle.fs_kinds.specs.PriceTable.{PriceTable, cost}
use Rattle.fs_kinds.proofs.Names.{table_index-injective}
use Rattle.fs_model.specs.declared.test.Test.{Test}
use Rattle.fs_model.specs.Allows.{IsCheapest, is_better}
use Rattle.fs_model_laws.specs.Bounds.{AreRanked}

-- ---- a first number, and then a test

abbrev pub by_first : ℕ → ℕ → Bool → Bool
by_first m n b = nat_lt m n || (m == n) && b

pub first-less : (m n : ℕ) (b : Bool) → m < n → by_first m n b ≡ true
first-less m n b less = grind (arith, nat_tests)

pub first-same : (m n : ℕ) (b : Bool) → m ≡ n → b ≡ true → by_first m n b ≡ true
first-same m n b same here = grind (arith, nat_tests)

pub first-more : (m n : ℕ) (b : Bool) → n < m → by_first m n b ≡ false
first-more m n b more = grind (arith, nat_tests)

pub first-cases : (m n : ℕ) (b : Bool) → by_first m n b ≡ true → (m < n) ⊎ ((m ≡ n) × (b ≡ true))
first-cases m n b h = elim (or_cases _ _ h) [
  | inl less ↦ inl (ltb-true m n less)
  | inr same ↦ (let parts = and_parts (m == n) b same in inr (eqb-true m n parts.0, parts.1))
]

pub order : (m n : ℕ) → (m < n) ⊎ ((m ≡ n) ⊎ (n < m))
order m n = elim (cases_Bool (nat_lt m n)) [
  | inl less ↦ inl (ltb-true m n less)
  | inr rest ↦ elim (cases_Bool (m == n)) [
    | inl same ↦ inr (inl (eqb-true m n same))
    | inr other ↦ inr (inr (grind (arith, nat_tests)))
  ]
]

first-itself : (m : ℕ) (b : Bool) → b ≡ false → by_first m m b ≡ false
first-itself m b here = grind (arith, nat_tests)

first-transitive : (l m n : ℕ) (a b c : Bool) → (a ≡ true → b ≡ true → c ≡ true)
    → by_first l m a ≡ true → by_first m n b ≡ true → by_first l n c ≡ true
first-transitive l m n a b c next h k = elim (first-cases l m a h) [
  | inl less ↦ elim (first-cases m n b k) [
    | inl less' ↦ first-less l n c (omega (arith, less, less'))
    | inr same' ↦ first-less l n c (omega (arith, less, same'.0))
  ]
  | inr same ↦ elim (first-cases m n b k) [
    | inl less' ↦ first-less l n c (omega (arith, same.0, less'))
    | inr same' ↦ first-same l n c (omega (arith, same.0, same'.0)) (next same.1 same'.1)
  ]
]

-- ---- the order of placements

pub rank-injective : (k l : Option Kind) → rank k ≡ rank l → k ≡ l
rank-injective None None e = refl
rank-injective None (Some l) e = absurd (omega (arith, e))
rank-injective (Some k) None e = absurd (omega (arith, e))
rank-injective (Some k) (Some l) e = ap Some (table_index-injective k l (omega (arith, e)))

pub not_before_itself : (p : List Entry) → precedes p p ≡ false
not_before_itself [] = refl
not_before_itself (e ∷ p) = first-itself (rank e.kind) (precedes p p) (not_before_itself p)

pub before-transitive : (p q r : List Entry) → precedes p q ≡ true → precedes q r ≡ true → precedes p r ≡ true
before-transitive [] q r h k = absurd (false≢true h)
before-transitive (e ∷ p) [] r h k = absurd (false≢true h)
before-transitive (e ∷ p) (f ∷ q) [] h k = absurd (false≢true k)
before-transitive (e ∷ p) (f ∷ q) (g ∷ r) h k =
    first-transitive (rank e.kind) (rank f.kind) (rank g.kind) (precedes p q) (precedes q r) (precedes p r) (before-transitive p q r) h k

pub nil≢cons : (s : Slot) (ss : List Slot) → [] ≡ s ∷ ss → ⊥
nil≢cons s ss same = false≢true (ap is_filled same)
  where
    is_filled : List Slot → Bool
    is_filled [] = false
    is_filled (t ∷ ts) = true

abbrev pub entry_of : Slot → Option Kind → Entry
entry_of s kind = record { slot = s; kind = kind }

pub before-total : (p q : List Entry) → slots_of p ≡ slots_of q
    → (p ≡ q) ⊎ ((precedes p q ≡ true) ⊎ (precedes q p ≡ true))
before-total [] [] same = inl refl
before-total [] (f ∷ q) same = absurd (nil≢cons f.slot (slots_of q) same)
before-total (e ∷ p) [] same = absurd (nil≢cons e.slot (slots_of p) (sym same))
before-total (e ∷ p) (f ∷ q) same = elim (order (rank e.kind) (rank f.kind)) [
  | inl less ↦ inr (inl (first-less _ _ (precedes p q) less))
  | inr rest ↦ elim rest [
    | inl equal ↦ elim (before-total p q later) [
      | inl rest ↦ inl (ap₂ (λ h hs. h ∷ hs) (ap₂ entry_of first (rank-injective e.kind f.kind equal)) rest)
      | inr one ↦ elim one [
        | inl before ↦ inr (inl (first-same _ _ (precedes p q) equal before))
        | inr after ↦ inr (inr (first-same _ _ (precedes q p) (sym equal) after))
      ]
    ]
    | inr more ↦ inr (inr (first-less _ _ (precedes q p) more))
  ]
]
  where
    first : e.slot ≡ f.slot
    first = ap (λ ss. slice_index_or ss 0 e.slot) same

    later : slots_of p ≡ slots_of q
    later = ap (drop 1) same

-- ---- the better of two

pub better-irreflexive : (prices : PriceTable) (p : List Entry) → is_better prices p p ≡ false
better-irreflexive prices p = first-itself (cost prices p) (precedes p p) (not_before_itself p)

pub better-transitive : (prices : PriceTable) (p q r : List Entry)
    → is_better prices p q ≡ true → is_better prices q r ≡ true → is_better prices p r ≡ true
better-transitive prices p q r =
    first-transitive (cost prices p) (cost prices q) (cost prices r) (precedes p q) (precedes q r) (precedes p r)
    (before-transitive p q r)

pub better-total : (prices : PriceTable) (p q : List Entry) → slots_of p ≡ slots_of q → AreRanked prices p q
better-total prices p q same = elim (order (cost prices p) (cost prices q)) [
  | inl less ↦ inr (inl (first-less _ _ (precedes p q) less))
  | inr rest ↦ elim rest [
    | inl equal ↦ elim (before-total p q same) [
      | inl one ↦ inl one
      | inr other ↦ elim other [
        | inl before ↦ inr (inl (first-same _ _ (precedes p q) equal before))
        | inr after ↦ inr (inr (first-same _ _ (precedes q p) (sym equal) after))
      ]
    ]
    | inr more ↦ inr (inr (first-less _ _ (precedes q p) more))
  ]
]

-- there is one cheapest placement at most
pub one_cheapest : (t : Test) (prices : PriceTable) (p q : List Entry) → IsCheapest t prices p → IsCheapest t prices q → p ≡ q
one_cheapest t prices p q first second =
    elim (better-total prices p q (rw (first.placement.slots, second.placement.slots) refl)) [
      | inl same ↦ same
      | inr other ↦ elim other [
        | inl better ↦ absurd (first.forbids (second.better p first.placement better))
        | inr better ↦ absurd (second.forbids (first.better q second.placement better))
      ]
    ]
