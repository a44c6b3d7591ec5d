-- A placement without one of its fences is better.
use Rattle.std.proofs.Common.{◌≡◌, ◌≢◌, ℕ, zero, suc, ◌<◌, ◌≤◌, ◌*◌, Bool, true, false, None, Some, List, [], ◌∷◌, inl, inr, refl, ap, ◌∙◌, arith, if◌then◌else◌}
use Rattle.std.specs.Prelude.{slice_get}
use Rattle.std.proofs.lemmas.Bool.{and_from, and_parts}
use Rattle.std.proofs.lemmas.List.Sums.{sum_by-cons}
use Rattle.fs_kinds.specs.declared.kind.Kind.{Kind}
use Rattle.fs_kinds.specs.declared.placement.Entry.{Entry}
use Rattle.fs_kinds.specs.declared.slot.Slot.{Slot}
use Rattle.fs_kinds.specs.Placement.{entry_with, precedes, rank, with_kind}
use Rattle.fs_kinds.specs.PriceTable.{PriceTable, are_offered, cost, entry_cost, is_offered}
use Rattle.fs_kinds.specs.Slot.{is_same_slot}
use Rattle.fs_kinds.proofs.Entries.{slots_of-with_kind}
use Rattle.fs_model.specs.declared.test.Test.{Test}
use Rattle.fs_model.specs.Allows.{IsPlacement, is_better}
use Rattle.fs_model_laws.proofs.PlacedPairs.{itself}
use Rattle.fs_model_laws.proofs.Ranked.{by_first, first-less, first-same, order}
use Rattle.fs_cert_evidence.specs.Certificate.{Certificate, Version, First, Second, Fourth}
use Rattle.fs_board_offers.specs.Priced.{IsValidFor}
use Rattle.fs_board_offers.proofs.Priced.{to-prices}
use Rattle.fs_check_certificate.specs.Shown.{IsBetterBy, IsShown}
use Rattle.fs_check_certificate.proofs.Covering.{better-shown}

-- a first number that is no greater, and then a test that holds
no-more : (m n : ℕ) (b : Bool) → m ≤ n → b ≡ true → by_first m n b ≡ true
no-more m n b low here = elim (order m n) [
  | inl less ↦ first-less m n b less
  | inr rest ↦ elim rest [
    | inl same ↦ first-same m n b same here
    | inr more ↦ absurd (omega (arith, low, more))
  ]
]

module _ (prices : PriceTable) (s : Slot) where
  none-times : (n m : ℕ) → 0 * n ≤ m
  none-times n m = omega arith

  -- an entry, with nothing where it is of the slot
  bare : Bool → Entry → Entry
  bare b e = if b then record { slot = e.slot; kind = None } else e

  lower-cost : (b : Bool) (e : Entry) → entry_cost prices (bare b e) ≤ entry_cost prices e
  unfolding bare
  lower-cost true e = none-times _ _
  lower-cost false e = omega arith

  lower-rank : (b : Bool) (e : Entry) → rank (bare b e).kind ≤ rank e.kind
  unfolding bare
  lower-rank true e = omega arith
  lower-rank false e = omega arith

  still-offered : (b : Bool) (e : Entry) → is_offered prices e.kind ≡ true → is_offered prices (bare b e).kind ≡ true
  unfolding bare
  still-offered true e h = refl
  still-offered false e h = h

  cost-no-more : (p : List Entry) → cost prices (with_kind s None p) ≤ cost prices p
  unfolding bare
  cost-no-more [] = omega arith
  cost-no-more (e ∷ p) =
      let mine = sum_by-cons (entry_cost prices) (entry_with s None e) (with_kind s None p) in
      let theirs = sum_by-cons (entry_cost prices) e p in
      let here : entry_cost prices (entry_with s None e) ≤ entry_cost prices e = lower-cost (is_same_slot e.slot s) e in
      let rest = cost-no-more p in
      omega (arith, mine, theirs, here, rest)

  offered-bare : (p : List Entry) → are_offered prices p ≡ true → are_offered prices (with_kind s None p) ≡ true
  unfolding bare
  offered-bare [] h = refl
  offered-bare (e ∷ p) h =
      let parts = and_parts (is_offered prices e.kind) (are_offered prices p) h in
      and_from _ _ (still-offered (is_same_slot e.slot s) e parts.0) (offered-bare p parts.1)

  filled-first : (b : Bool) (e : Entry) (kind : Kind) → b ≡ true → e.kind ≡ Some kind → rank (bare b e).kind < rank e.kind
  unfolding bare
  filled-first b e kind is filled =
      let low : rank (bare b e).kind ≡ 0 = ap (λ x. rank (bare x e).kind) is in
      let high = ap rank filled in
      omega (arith, low, high)

  earlier : (p : List Entry) (k : ℕ) (kind : Kind) → slice_get p k ≡ Some (record { slot = s; kind = Some kind })
      → precedes (with_kind s None p) p ≡ true
  unfolding bare
  earlier [] k kind at = absurd (cc)
  earlier (e ∷ p) zero kind at =
      let one : e ≡ record { slot = s; kind = Some kind } = cc in
      let same : is_same_slot e.slot s ≡ true = ap (λ (f : Entry). is_same_slot f.slot s) one ∙ itself s in
      first-less _ _ (precedes (with_kind s None p) p)
      (filled-first (is_same_slot e.slot s) e kind same (ap (λ (f : Entry). f.kind) one))
  earlier (e ∷ p) (suc k) kind at =
      no-more _ _ (precedes (with_kind s None p) p) (lower-rank (is_same_slot e.slot s) e) (earlier p k kind at)

  bare-better : (p : List Entry) (k : ℕ) (kind : Kind) → slice_get p k ≡ Some (record { slot = s; kind = Some kind })
      → is_better prices (with_kind s None p) p ≡ true
  bare-better p k kind at = no-more _ _ (precedes (with_kind s None p) p) (cost-no-more p) (earlier p k kind at)

  bare-placement : (t : Test) (p : List Entry) → IsPlacement t prices p → IsPlacement t prices (with_kind s None p)
  bare-placement t p is = record { slots = slots_of-with_kind s None p ∙ is.slots; offered = offered-bare p is.offered }

better-by : (version : Version) (prices : PriceTable) (q p : List Entry) → version ≢ First → is_better prices q p ≡ true → IsBetterBy version prices q p
better-by First prices q p other better = absurd (other refl)
better-by Second prices q p other better = better
better-by Fourth prices q p other better = better

-- the witnesses of a valid certificate show the outcome without each fence of its answer
pub fences-shown : (t : Test) (prices : PriceTable) (c : Certificate) (p : List Entry) → IsValidFor t prices c p → c.version ≢ First
    → (k : ℕ) (slot : Slot) (kind : Kind) → slice_get p k ≡ Some (record { slot = slot; kind = Some kind })
    → IsShown t c.witnesses (with_kind slot None p)
fences-shown t prices c p valid later k slot kind at =
    better-shown t prices c p (with_kind slot None p) valid
    (bare-placement prices slot t p (to-prices t prices p valid.answered.placement))
    (better-by c.version prices (with_kind slot None p) p later (bare-better prices slot p k kind at))
