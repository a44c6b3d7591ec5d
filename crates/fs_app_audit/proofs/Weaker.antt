-- What is offered in a place orders no more than the FENCE that is written there.
use Rattle.std.proofs.Common.{◌≡◌, ◌∙◌, ℕ, Bool, true, false, not, cond, Option, None, Some, is_some, unwrap_or, List, [], ◌∷◌, map, refl, ap, sym, subst, if◌then◌else◌}
use Rattle.std.specs.Prelude.{option_and_then}
use Rattle.std.specs.List.{find}
use Rattle.std.proofs.lemmas.Bool.{and_parts, false≢true}
use Rattle.fs_instr.specs.declared.instr.Instr.{Instr}
use Rattle.fs_kinds.specs.declared.kind.Kind.{Kind}
use Rattle.fs_kinds.specs.declared.placement.Entry.{Entry}
use Rattle.fs_kinds.specs.declared.slot.Slot.{Slot}
use Rattle.fs_kinds.specs.Kind.{Pair, no_stronger, pairs_of}
use Rattle.fs_kinds.specs.Placement.{kind_at, pairs_kept}
use Rattle.fs_kinds.specs.PriceTable.{PriceTable}
use Rattle.fs_kinds.specs.PriceTable as priced
use Rattle.fs_kinds.specs.Slot.{is_same_slot}
use Rattle.fs_model.specs.declared.test.Test.{Test}
use Rattle.fs_model_laws.specs.InPlace.{as_written, places, written_at}
use Rattle.fs_model_laws.proofs.WrittenPlaces.{written_is}
use Rattle.fs_model_laws.specs.Strength.{KeepsNoMore}
use Rattle.fs_model_laws.proofs.PlacedPairs.{same_slot, subset_at}
use Rattle.fs_board_offers.specs.Offers.{Offers, IsPlacement, price_of, is_offered, offer_at, nothing, are_offered}
use Rattle.fs_app_audit.specs.InPlace.{price_below, price_in_place, weight_in_place, written_price, offer_in_place, offers_in_place}
use Rattle.fs_app_audit.proofs.Offered.{price_there, some_weighed}

abbrev IsKept : Option Kind → Option Kind → Type 0
IsKept less more = (pair : Pair) → pairs_kept less pair ≡ true → pairs_kept more pair ≡ true

-- ---- of each placement of offers

placed_first : (offers : Offers) (e : Entry) (p : List Entry) (s : Slot) (kind : Kind) (c : Bool) → is_same_slot e.slot s ≡ c
    → is_offered (offer_at offers e.slot) e.kind ≡ true
    → option_and_then (λ f. f.kind) (cond c (Some e) (find (λ f. is_same_slot f.slot s) p)) ≡ Some kind
    → (kind_at s p ≡ Some kind → is_offered (offer_at offers s) (Some kind) ≡ true) → is_offered (offer_at offers s) (Some kind) ≡ true
placed_first offers e p s kind true same here is rest =
    ap (λ u. is_offered (offer_at offers u) (Some kind)) (sym (same_slot e.slot s same))
    ∙ ap (is_offered (offer_at offers e.slot)) (sym is)
    ∙ here
placed_first offers e p s kind false same here is rest = rest is

placed_offered : (offers : Offers) (p : List Entry) (s : Slot) (kind : Kind) → are_offered offers p ≡ true → kind_at s p ≡ Some kind
    → is_offered (offer_at offers s) (Some kind) ≡ true
placed_offered offers [] s kind all is = absurd (cc)
placed_offered offers (e ∷ p) s kind all is =
    let parts = and_parts (is_offered (offer_at offers e.slot) e.kind) (are_offered offers p) all in
    placed_first offers e p s kind (is_same_slot e.slot s) refl parts.0 is (placed_offered offers p s kind parts.1)

-- ---- in places

module _ (prices : PriceTable) (codes : List (List Instr)) where
  weaker_by : (own kind : Kind) (c : Bool) (rest : Option ℕ) → no_stronger kind own ≡ c → is_some (if not c then None else rest) ≡ true
      → no_stronger kind own ≡ true
  weaker_by own kind true rest is h = is
  weaker_by own kind false rest is h = absurd (false≢true h)

  below_weaker : (own kind : Kind) → is_some (price_below prices own kind) ≡ true → no_stronger kind own ≡ true
  below_weaker own kind h =
      weaker_by own kind (no_stronger kind own)
      (if no_stronger own kind then written_price prices own else priced.price_of prices kind) refl h

  kept_by : (own : Option Kind) (kind : Kind) → is_some (price_in_place prices own kind) ≡ true → IsKept (Some kind) own
  kept_by None kind h pair kept = absurd (false≢true h)
  kept_by (Some own) kind h pair kept = subset_at (pairs_of kind) (pairs_of own) (below_weaker own kind h) pair kept

  offer_kept : (s : Slot) (kind : Kind) → is_some (price_of (offer_in_place prices codes s) kind) ≡ true → IsKept (Some kind) (written_at codes s)
  offer_kept s kind h =
      kept_by (written_at codes s) kind
      (sym (some_weighed (weight_in_place prices codes s) (price_in_place prices (written_at codes s) kind))
      ∙ sym (ap is_some (price_there prices codes s kind)) ∙ h)

  found_first : (u s : Slot) (us : List Slot) (kind : Kind) (c : Bool) → is_same_slot u s ≡ c
      → is_some (price_of (unwrap_or (cond c (Some (offer_in_place prices codes u))
      (find (λ o. is_same_slot o.slot s) (map (offer_in_place prices codes) us))) (nothing s)) kind) ≡ true
      → (is_some (price_of (offer_at (map (offer_in_place prices codes) us) s) kind) ≡ true → is_some (price_of (offer_in_place prices codes s) kind) ≡ true)
      → is_some (price_of (offer_in_place prices codes s) kind) ≡ true
  found_first u s us kind true same h rest =
      ap (λ v. is_some (price_of (offer_in_place prices codes v) kind)) (sym (same_slot u s same)) ∙ h
  found_first u s us kind false same h rest = rest h

  offered_there : (ss : List Slot) (s : Slot) (kind : Kind) → is_some (price_of (offer_at (map (offer_in_place prices codes) ss) s) kind) ≡ true
      → is_some (price_of (offer_in_place prices codes s) kind) ≡ true
  offered_there [] s kind h = absurd (false≢true h)
  offered_there (u ∷ us) s kind h = found_first u s us kind (is_same_slot u s) refl h (offered_there us s kind)

  kept_at : (p : List Entry) → are_offered (offers_in_place prices codes) p ≡ true → (s : Slot) (o : Option Kind) → kind_at s p ≡ o
      → IsKept o (written_at codes s)
  kept_at p all s None is pair kept = absurd (false≢true kept)
  kept_at p all s (Some kind) is pair kept =
      offer_kept s kind (offered_there (places codes) s kind (placed_offered (offers_in_place prices codes) p s kind all is)) pair kept

pub keeps_no_more : (prices : PriceTable) (t : Test) (p : List Entry) → IsPlacement (offers_in_place prices t.codes) p
    → KeepsNoMore p (as_written t)
keeps_no_more prices t p is s pair kept =
    subst (λ o. pairs_kept o pair ≡ true) (sym (written_is t s)) (kept_at prices t.codes p is.offered s (kind_at s p) refl pair kept)
