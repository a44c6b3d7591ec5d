-- Which of two placements is better: a total order of those over the same slots.
use Rattle.std.proofs.Common.{◌≡◌, ◌⊎◌, ℕ, ◌+◌, ◌≤◌, nat_lt, Bool, true, false, Option, None, Some, List, [], ◌∷◌, inl, inr, refl, sym, ap, ap₂, ◌∙◌, arith}
use Rattle.std.specs.Prelude.{drop, slice_index_or, if◌then◌else◌}
use Rattle.std.proofs.lemmas.Bool.{and_parts, eqb-true, ltb-true, false≢true}
use Rattle.std.proofs.lemmas.Bool.Decides.{nat_tests}
use Rattle.fs_kinds.specs.declared.kind.Kind.{Kind}
use Rattle.fs_kinds.specs.declared.placement.Entry.{Entry}
use Rattle.fs_kinds.specs.Kind.{table_index}
use Rattle.fs_kinds.specs.Placement.{slots_of}
use Rattle.fs_kinds.proofs.Names.{table_index-injective}
use Rattle.fs_model.specs.declared.test.Test.{Test}
use Rattle.fs_model_laws.proofs.Ranked.{by_first, first-less, first-same, first-cases, order, nil≢cons, entry_of}
use Rattle.fs_board_offers.specs.Offers.{Offer, Offers, kind_cost, is_kind, is_kept, rank_in, first_of, first_kind, offer_at, rank_at, cost, precedes, IsCheapest, is_better}
use Rattle.fs_board_offers.specs.Bounds.{AreRanked}

-- ---- a first number, and then a test

first-itself : (m : ℕ) (b : Bool) → b ≡ false → by_first m m b ≡ false
first-itself m b here = grind (arith, nat_tests)

first-transitive : (l m n : ℕ) (a b c : Bool) → (a ≡ true → b ≡ true → c ≡ true)
    → by_first l m a ≡ true → by_first m n b ≡ true → by_first l n c ≡ true
first-transitive l m n a b c next h k = elim (first-cases l m a h) [
  | inl less ↦ elim (first-cases m n b k) [
    | inl less' ↦ first-less l n c (omega (arith, less, less'))
    | inr same' ↦ first-less l n c (omega (arith, less, same'.0))
  ]
  | inr same ↦ elim (first-cases m n b k) [
    | inl less' ↦ first-less l n c (omega (arith, same.0, less'))
    | inr same' ↦ first-same l n c (omega (arith, same.0, same'.0)) (next same.1 same'.1)
  ]
]

-- ---- the order at one slot

is-kind : (found : Option Kind) (kind : Kind) → is_kind found kind ≡ true → found ≡ Some kind
is-kind None kind is = absurd (false≢true is)
is-kind (Some other) kind is = ap Some (table_index-injective other kind (eqb-true (table_index other) (table_index kind) is))

kind-itself : (kind : Kind) → is_kind (Some kind) kind ≡ true
kind-itself kind = let n = table_index kind in grind (arith, nat_tests)

-- the rank of a kind, by whether it is kept
abbrev rank_by : Bool → Kind → ℕ
rank_by kept kind = if kept then 0 else 2 + table_index kind

none-apart : (b : Bool) (kind : Kind) → 1 ≡ rank_by b kind → ⊥
none-apart true kind e = omega (arith, e)
none-apart false kind e = omega (arith, e)

module _ (o : Offer) where
  kept-parts : (kind : Kind) → is_kept o kind ≡ true → (is_kind o.written kind ≡ true) × (nat_lt 0 (kind_cost o (Some kind)) ≡ true)
  kept-parts kind kept = and_parts (is_kind o.written kind) (nat_lt 0 (kind_cost o (Some kind))) kept

  kept-one : (kind : Kind) → is_kept o kind ≡ true → o.written ≡ Some kind
  kept-one kind kept = is-kind o.written kind (kept-parts kind kept).0

  some-injective : (k l : Kind) (a b : Bool) → is_kept o k ≡ a → is_kept o l ≡ b → rank_by a k ≡ rank_by b l → k ≡ l
  some-injective k l true true first second e =
      let same : Some k ≡ Some l = sym (kept-one k first) ∙ kept-one l second in
      cc
  some-injective k l true false first second e = absurd (omega (arith, e))
  some-injective k l false true first second e = absurd (omega (arith, e))
  some-injective k l false false first second e = table_index-injective k l (omega (arith, e))

  pub rank-in-injective : (k l : Option Kind) → rank_in o k ≡ rank_in o l → k ≡ l
  rank-in-injective None None e = refl
  rank-in-injective None (Some l) e = absurd (none-apart (is_kept o l) l e)
  rank-in-injective (Some k) None e = absurd (none-apart (is_kept o k) k (sym e))
  rank-in-injective (Some k) (Some l) e = ap Some (some-injective k l (is_kept o k) (is_kept o l) refl refl e)

  -- what costs nothing doesn't come before none
  free-rank : (kind : Kind) (b : Bool) → is_kept o kind ≡ b → kind_cost o (Some kind) ≡ 0 → 1 ≤ rank_by b kind
  free-rank kind true kept free =
      let more = ltb-true 0 (kind_cost o (Some kind)) (kept-parts kind kept).1 in
      absurd (omega (arith, more, free))
  free-rank kind false kept free = omega arith

  pub none-before-free : (kind : Option Kind) → kind_cost o kind ≡ 0 → rank_in o None ≤ rank_in o kind
  none-before-free None free = omega arith
  none-before-free (Some kind) free = free-rank kind (is_kept o kind) refl free

  -- nothing comes before the first
  none-least : (kind : Kind) (b : Bool) → is_kept o kind ≡ b → (is_kept o kind ≡ true → ⊥) → 1 ≤ rank_by b kind
  none-least kind true kept other = absurd (other kept)
  none-least kind false kept other = omega arith

  none-first : ((kind : Kind) → is_kept o kind ≡ true → ⊥) → (kind : Option Kind) → rank_in o None ≤ rank_in o kind
  none-first other None = omega arith
  none-first other (Some kind) = none-least kind (is_kept o kind) refl (other kind)

  kept-first : (kind : Kind) (n : ℕ) → is_kept o kind ≡ true → rank_in o (Some kind) ≤ n
  kept-first kind n kept = let none : rank_in o (Some kind) ≡ 0 = ap (λ b. rank_by b kind) kept in omega (arith, none)

  by-kept : (written : Kind) (b : Bool) → o.written ≡ Some written → is_kept o written ≡ b → (kind : Option Kind)
      → rank_in o (if b then Some written else None) ≤ rank_in o kind
  by-kept written true is kept kind = kept-first written (rank_in o kind) kept
  by-kept written false is kept kind = none-first other kind
    where
      other : (k : Kind) → is_kept o k ≡ true → ⊥
      other k here =
          let same : Some written ≡ Some k = sym is ∙ kept-one k here in
          let one : written ≡ k = cc in
          false≢true (sym kept ∙ (ap (is_kept o) one ∙ here))

  by-written : (written : Option Kind) → o.written ≡ written → (kind : Option Kind) → rank_in o (first_of o written) ≤ rank_in o kind
  by-written None is kind = none-first (λ k here. let same : None ≡ Some k = sym is ∙ kept-one k here in absurd (cc)) kind
  by-written (Some written) is kind = by-kept written (is_kept o written) is refl kind

  pub first-least : (kind : Option Kind) → rank_in o (first_kind o) ≤ rank_in o kind
  first-least kind = by-written o.written refl kind

-- ---- the order of placements

module _ (offers : Offers) where
  pub not_before_itself : (p : List Entry) → precedes offers p p ≡ false
  not_before_itself [] = refl
  not_before_itself (e ∷ p) = first-itself (rank_at offers e) (precedes offers p p) (not_before_itself p)

  pub before-transitive : (p q r : List Entry) → precedes offers p q ≡ true → precedes offers q r ≡ true → precedes offers p r ≡ true
  before-transitive [] q r h k = absurd (false≢true h)
  before-transitive (e ∷ p) [] r h k = absurd (false≢true h)
  before-transitive (e ∷ p) (f ∷ q) [] h k = absurd (false≢true k)
  before-transitive (e ∷ p) (f ∷ q) (g ∷ r) h k =
      first-transitive (rank_at offers e) (rank_at offers f) (rank_at offers g)
      (precedes offers p q) (precedes offers q r) (precedes offers p r) (before-transitive p q r) h k

  pub before-total : (p q : List Entry) → slots_of p ≡ slots_of q
      → (p ≡ q) ⊎ ((precedes offers p q ≡ true) ⊎ (precedes offers q p ≡ true))
  before-total [] [] same = inl refl
  before-total [] (f ∷ q) same = absurd (nil≢cons f.slot (slots_of q) same)
  before-total (e ∷ p) [] same = absurd (nil≢cons e.slot (slots_of p) (sym same))
  before-total (e ∷ p) (f ∷ q) same = elim (order (rank_at offers e) (rank_at offers f)) [
    | inl less ↦ inr (inl (first-less _ _ (precedes offers p q) less))
    | inr rest ↦ elim rest [
      | inl equal ↦ elim (before-total p q later) [
        | inl rest ↦ inl (ap₂ (λ h hs. h ∷ hs) (ap₂ entry_of first (alike equal)) rest)
        | inr one ↦ elim one [
          | inl before ↦ inr (inl (first-same _ _ (precedes offers p q) equal before))
          | inr after ↦ inr (inr (first-same _ _ (precedes offers q p) (sym equal) after))
        ]
      ]
      | inr more ↦ inr (inr (first-less _ _ (precedes offers q p) more))
    ]
  ]
    where
      first : e.slot ≡ f.slot
      first = ap (λ ss. slice_index_or ss 0 e.slot) same

      later : slots_of p ≡ slots_of q
      later = ap (drop 1) same

      alike : rank_at offers e ≡ rank_at offers f → e.kind ≡ f.kind
      alike equal =
          rank-in-injective (offer_at offers e.slot) e.kind f.kind
          (equal ∙ ap (λ s. rank_in (offer_at offers s) f.kind) (sym first))

  -- ---- the better of two

  pub better-irreflexive : (p : List Entry) → is_better offers p p ≡ false
  better-irreflexive p = first-itself (cost offers p) (precedes offers p p) (not_before_itself p)

  pub better-transitive : (p q r : List Entry)
      → is_better offers p q ≡ true → is_better offers q r ≡ true → is_better offers p r ≡ true
  better-transitive p q r =
      first-transitive (cost offers p) (cost offers q) (cost offers r)
      (precedes offers p q) (precedes offers q r) (precedes offers p r) (before-transitive p q r)

  pub better-total : (p q : List Entry) → slots_of p ≡ slots_of q → AreRanked offers p q
  better-total p q same = elim (order (cost offers p) (cost offers q)) [
    | inl less ↦ inr (inl (first-less _ _ (precedes offers p q) less))
    | inr rest ↦ elim rest [
      | inl equal ↦ elim (before-total p q same) [
        | inl one ↦ inl one
        | inr other ↦ elim other [
          | inl before ↦ inr (inl (first-same _ _ (precedes offers p q) equal before))
          | inr after ↦ inr (inr (first-same _ _ (precedes offers q p) (sym equal) after))
        ]
      ]
      | inr more ↦ inr (inr (first-less _ _ (precedes offers q p) more))
    ]
  ]

-- there is one cheapest placement at most
pub one_cheapest : (t : Test) (offers : Offers) (p q : List Entry) → IsCheapest t offers p → IsCheapest t offers q → p ≡ q
one_cheapest t offers p q first second =
    elim (better-total offers p q (rw (first.placement.slots, second.placement.slots) refl)) [
      | inl same ↦ same
      | inr other ↦ elim other [
        | inl better ↦ absurd (first.forbids (second.better p first.placement better))
        | inr better ↦ absurd (second.forbids (first.better q second.placement better))
      ]
    ]
