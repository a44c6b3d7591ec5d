-- Fences in places without one of them are better.
use Rattle.std.proofs.Common.{◌≡◌, ◌∙◌, ℕ, zero, suc, ◌+◌, ◌<◌, ◌≤◌, ◌&&◌, nat_lt, Bool, true, false, cond, Option, None, Some, List, [], ◌∷◌, inl, inr, refl, ap, arith, if◌then◌else◌}
use Rattle.std.specs.Prelude.{option_and_then}
use Rattle.std.specs.List.{find}
use Rattle.std.proofs.lemmas.Bool.{and_from, and_parts}
use Rattle.std.proofs.lemmas.List.Sums.{sum_by-cons}
use Rattle.fs_kinds.specs.declared.kind.Kind.{Kind}
use Rattle.fs_kinds.specs.declared.placement.Entry.{Entry}
use Rattle.fs_kinds.specs.declared.slot.Slot.{Slot}
use Rattle.fs_kinds.specs.Kind.{table_index}
use Rattle.fs_kinds.specs.Placement.{entry_with, kind_at, with_kind}
use Rattle.fs_kinds.specs.Slot.{is_same_slot}
use Rattle.fs_kinds.proofs.Entries.{slots_of-with_kind}
use Rattle.fs_model.specs.declared.test.Test.{Test}
use Rattle.fs_model.specs.Allows.{Allows}
use Rattle.fs_model_laws.proofs.PlacedPairs.{same_slot}
use Rattle.fs_model_laws.proofs.Ranked.{by_first, first-less, first-same, order}
use Rattle.fs_board_offers.specs.Offers.{Offers, IsCheapest, IsPlacement, are_offered, cost, entry_cost, is_better, is_kind, is_offered, kind_cost, offer_at, precedes, rank_at, rank_in}

-- a first number that is no greater, and then a test that holds
no-more : (m n : ℕ) (b : Bool) → m ≤ n → b ≡ true → by_first m n b ≡ true
no-more m n b low here = elim (order m n) [
  | inl less ↦ first-less m n b less
  | inr rest ↦ elim rest [
    | inl same ↦ first-same m n b same here
    | inr more ↦ absurd (omega (arith, low, more))
  ]
]

-- what costs nothing comes behind none
late : (is_written : Bool) (n i : ℕ) → n ≡ 0 → 1 < (if is_written && nat_lt 0 n then 0 else 2 + i)
late true zero i free = omega arith
late true (suc n) i free = absurd (omega (arith, free))
late false n i free = omega arith

-- no greater, by what is no greater and what is; and less
sum-low : (a b c d : ℕ) → a ≤ b → c ≤ d → a + c ≤ b + d
sum-low a b c d first second = omega (arith, first, second)

sum-less : (a b c d : ℕ) → a ≡ 0 → 0 < b → c ≤ d → a + c < b + d
sum-less a b c d first second third = omega (arith, first, second, third)

sum-later : (a b c d : ℕ) → a ≡ b → c < d → a + c < b + d
sum-later a b c d first second = omega (arith, first, second)

module _ (offers : Offers) (s : Slot) where
  -- an entry, with nothing where it is of the slot
  bare : Bool → Entry → Entry
  bare b e = if b then record { slot = e.slot; kind = None } else e

  lower-cost : (b : Bool) (e : Entry) → entry_cost offers (bare b e) ≤ entry_cost offers e
  unfolding bare
  lower-cost true e = omega arith
  lower-cost false e = omega arith

  still-offered : (b : Bool) (e : Entry) → is_offered (offer_at offers e.slot) e.kind ≡ true
      → is_offered (offer_at offers (bare b e).slot) (bare b e).kind ≡ true
  unfolding bare
  still-offered true e h = refl
  still-offered false e h = h

  cost-no-more : (p : List Entry) → cost offers (with_kind s None p) ≤ cost offers p
  unfolding bare
  cost-no-more [] = omega arith
  cost-no-more (e ∷ p) =
      let mine = sum_by-cons (entry_cost offers) (entry_with s None e) (with_kind s None p) in
      let theirs = sum_by-cons (entry_cost offers) e p in
      let here : entry_cost offers (entry_with s None e) ≤ entry_cost offers e = lower-cost (is_same_slot e.slot s) e in
      let rest = cost-no-more p in
      omega (arith, mine, theirs, here, rest)

  offered-bare : (p : List Entry) → are_offered offers p ≡ true → are_offered offers (with_kind s None p) ≡ true
  unfolding bare
  offered-bare [] h = refl
  offered-bare (e ∷ p) h =
      let parts = and_parts (is_offered (offer_at offers e.slot) e.kind) (are_offered offers p) h in
      and_from _ _ (still-offered (is_same_slot e.slot s) e parts.0) (offered-bare p parts.1)

  abbrev kind-by : Bool → Entry → List Entry → Option Kind
  kind-by b e p = option_and_then (λ f. f.kind) (cond b (Some e) (find (λ f. is_same_slot f.slot s) p))

  own-cost : (e : Entry) (kind : Kind) → is_same_slot e.slot s ≡ true → e.kind ≡ Some kind
      → entry_cost offers e ≡ kind_cost (offer_at offers s) (Some kind)
  own-cost e kind same filled =
      ap (λ u. kind_cost (offer_at offers u) e.kind) (same_slot e.slot s same) ∙ ap (kind_cost (offer_at offers s)) filled

  own-rank : (e : Entry) (kind : Kind) → is_same_slot e.slot s ≡ true → e.kind ≡ Some kind
      → rank_at offers e ≡ rank_in (offer_at offers s) (Some kind)
  own-rank e kind same filled =
      ap (λ u. rank_in (offer_at offers u) e.kind) (same_slot e.slot s same) ∙ ap (rank_in (offer_at offers s)) filled

  -- ---- where it costs something

  less-by : (e : Entry) (p : List Entry) (kind : Kind) (b : Bool) → is_same_slot e.slot s ≡ b → kind-by b e p ≡ Some kind
      → 0 < kind_cost (offer_at offers s) (Some kind) → (kind_at s p ≡ Some kind → cost offers (with_kind s None p) < cost offers p)
      → entry_cost offers (bare b e) + cost offers (with_kind s None p) < entry_cost offers e + cost offers p
  unfolding bare
  less-by e p kind true same at paid rest =
      let own = own-cost e kind same at in
      let paid-here : 0 < entry_cost offers e = omega (arith, own, paid) in
      sum-less 0 (entry_cost offers e) (cost offers (with_kind s None p)) (cost offers p) refl paid-here (cost-no-more p)
  less-by e p kind false same at paid rest =
      sum-later (entry_cost offers e) (entry_cost offers e) (cost offers (with_kind s None p)) (cost offers p) refl (rest at)

  less : (p : List Entry) (kind : Kind) → kind_at s p ≡ Some kind → 0 < kind_cost (offer_at offers s) (Some kind)
      → cost offers (with_kind s None p) < cost offers p
  unfolding bare
  less [] kind at paid = absurd (cc)
  less (e ∷ p) kind at paid =
      let mine = sum_by-cons (entry_cost offers) (entry_with s None e) (with_kind s None p) in
      let theirs = sum_by-cons (entry_cost offers) e p in
      let both : entry_cost offers (entry_with s None e) + cost offers (with_kind s None p) < entry_cost offers e + cost offers p =
      less-by e p kind (is_same_slot e.slot s) refl at paid (λ later. less p kind later paid) in
      omega (arith, mine, theirs, both)

  -- ---- where it costs nothing

  earlier-by : (e : Entry) (p : List Entry) (kind : Kind) (b : Bool) → is_same_slot e.slot s ≡ b → kind-by b e p ≡ Some kind
      → kind_cost (offer_at offers s) (Some kind) ≡ 0 → (kind_at s p ≡ Some kind → precedes offers (with_kind s None p) p ≡ true)
      → by_first (rank_at offers (bare b e)) (rank_at offers e) (precedes offers (with_kind s None p) p) ≡ true
  unfolding bare
  earlier-by e p kind true same at free rest =
      let own = own-rank e kind same at in
      let behind = late (is_kind (offer_at offers s).written kind) (kind_cost (offer_at offers s) (Some kind)) (table_index kind) free in
      let earlier-here : 1 < rank_at offers e = omega (arith, own, behind) in
      first-less 1 (rank_at offers e) (precedes offers (with_kind s None p) p) earlier-here
  earlier-by e p kind false same at free rest =
      first-same (rank_at offers e) (rank_at offers e) (precedes offers (with_kind s None p) p) refl (rest at)

  earlier : (p : List Entry) (kind : Kind) → kind_at s p ≡ Some kind → kind_cost (offer_at offers s) (Some kind) ≡ 0
      → precedes offers (with_kind s None p) p ≡ true
  unfolding bare
  earlier [] kind at free = absurd (cc)
  earlier (e ∷ p) kind at free = earlier-by e p kind (is_same_slot e.slot s) refl at free (λ later. earlier p kind later free)

  -- ---- so it is better

  better-by : (p : List Entry) (kind : Kind) (n : ℕ) → kind_cost (offer_at offers s) (Some kind) ≡ n → kind_at s p ≡ Some kind
      → is_better offers (with_kind s None p) p ≡ true
  better-by p kind zero is at = no-more _ _ (precedes offers (with_kind s None p) p) (cost-no-more p) (earlier p kind at is)
  better-by p kind (suc n) is at =
      let paid : 0 < kind_cost (offer_at offers s) (Some kind) = omega (arith, is) in
      first-less (cost offers (with_kind s None p)) (cost offers p) (precedes offers (with_kind s None p) p) (less p kind at paid)

  bare-placement : (p : List Entry) → IsPlacement offers p → IsPlacement offers (with_kind s None p)
  bare-placement p is = record { slots = slots_of-with_kind s None p ∙ is.slots; offered = offered-bare p is.offered }

-- without one of its fences the first of the cheapest allows the outcome
pub each-needed : (t : Test) (offers : Offers) (p : List Entry) (s : Slot) (kind : Kind) → IsCheapest t offers p → kind_at s p ≡ Some kind
    → Allows t (with_kind s None p)
each-needed t offers p s kind cheapest at =
    cheapest.better (with_kind s None p) (bare-placement offers s p cheapest.placement)
    (better-by offers s p kind (kind_cost (offer_at offers s) (Some kind)) refl at)
