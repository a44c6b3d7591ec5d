-- The first placement that breaks all bars, where no test allows its outcome with it.
use Rattle.std.proofs.Common.{◌≡◌, ℕ, zero, suc, Bool, true, false, not, Some, List, [], ◌∷◌, ◌++◌, slice_get, inl, inr, refl, sym, subst}
use Rattle.std.proofs.lemmas.Bool.{and_cases, true≢false}
use Rattle.fs_kinds.specs.declared.kind.Kind.TheVariants.{RwRw}
use Rattle.fs_kinds.specs.declared.placement.Entry.{Entry}
use Rattle.fs_kinds.proofs.Entries.{slots_of-all_with}
use Rattle.fs_cert_evidence.specs.declared.evidence.Pairs.{Pairs}
use Rattle.fs_board_offers.specs.Offers.{Offers, IsPlacement, slots}
use Rattle.fs_board_offers.specs.Questions.{HasTop}
use Rattle.fs_board_offers.proofs.Ranked.{better-total}
use Rattle.fs_sites.specs.Plans.{is_within, breaks_all, IsFirstBreaking, NoneBreaks}
use Rattle.fs_sites.specs.Questions.{Part, Question, AllowsIn, IsCheapestIn, top}
use Rattle.fs_sites.specs.inner.Bars.{IsBarOf, AreBars}

-- one of the bars is left unbroken
record Unbroken (bars : List (List Pairs)) (r : List Entry) : Type 0 where
  number : ℕ
  bar : List Pairs
  at : slice_get bars number ≡ Some bar
  within : is_within bar r ≡ true

not-false : (b : Bool) → not b ≡ false → b ≡ true
not-false true h = refl
not-false false h = absurd (true≢false h)

one-unbroken : (bars : List (List Pairs)) (r : List Entry) → breaks_all bars r ≡ false → Unbroken bars r
one-unbroken [] r none = absurd (true≢false none)
one-unbroken (x ∷ bars) r none = elim (and_cases (not (is_within x r)) (breaks_all bars r) none) [
  | inl here ↦ record { number = 0; bar = x; at = refl; within = not-false (is_within x r) here }
  | inr there ↦ (
      let later = one-unbroken bars r there in
      record { number = suc later.number; bar = later.bar; at = later.at; within = later.within }
      )
]

module _ (parts : List Part) (offers : Offers) (bars : List (List Pairs)) (are : AreBars parts offers bars) where
  allowed : (r : List Entry) → IsPlacement offers r → breaks_all bars r ≡ false → AllowsIn parts r
  allowed r placement none =
      let left = one-unbroken bars r none in
      are left.number left.bar left.at r placement left.within

  pub top-allowed : HasTop offers → NoneBreaks offers bars → AllowsIn parts (top offers)
  top-allowed offered none =
      let placement : IsPlacement offers (top offers) = record {
        slots = slots_of-all_with (Some RwRw) (slots offers);
        offered = offered;
      } in
      allowed (top offers) placement (none (top offers) placement)

  pub cheapest : (p : List Entry) → IsFirstBreaking offers bars p → (AllowsIn parts p → ⊥)
      → IsCheapestIn (record { parts = parts; offers = offers }) p
  cheapest p first forbids = record {
    placement = first.placement;
    forbids = forbids;
    better = λ r placement better. allowed r placement (first.better r placement better);
  }

-- no bar, and a further one
pub no-bars : (parts : List Part) (offers : Offers) (bars : List (List Pairs)) → bars ≡ [] → AreBars parts offers bars
no-bars parts offers bars none = subst (AreBars parts offers) (sym none) (λ k bar at. absurd (cc))

pub bars-more : (parts : List Part) (offers : Offers) (bars : List (List Pairs)) (bar : List Pairs)
    → AreBars parts offers bars → IsBarOf parts offers bar → AreBars parts offers (bars ++ bar ∷ [])
bars-more parts offers [] bar are is zero other at =
    let same : bar ≡ other = cc in subst (IsBarOf parts offers) same is
bars-more parts offers [] bar are is (suc k) other at = absurd (cc)
bars-more parts offers (x ∷ bars) bar are is zero other at = are zero other at
bars-more parts offers (x ∷ bars) bar are is (suc k) other at =
    bars-more parts offers bars bar (λ j one there. are (suc j) one there) is k other at

-- there is one cheapest placement at most
pub one_cheapest : (q : Question) (p r : List Entry) → IsCheapestIn q p → IsCheapestIn q r → p ≡ r
one_cheapest q p r first second =
    elim (better-total q.offers p r (rw (first.placement.slots, second.placement.slots) refl)) [
      | inl same ↦ same
      | inr other ↦ elim other [
        | inl better ↦ absurd (first.forbids (second.better p first.placement better))
        | inr better ↦ absurd (second.forbids (first.better r second.placement better))
      ]
    ]
