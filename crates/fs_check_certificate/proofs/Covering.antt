-- A certificate's tree covers each placement: under what is better than the answer a witness shows the outcome.
use Rattle.std.proofs.Common.{◌≡◌, ◌⊎◌, ℕ, zero, suc, ◌+◌, ◌<◌, true, false, Option, None, Some, List, [], ◌∷◌, ◌++◌, length, map, inl, inr, refl, sym, ap, subst, ◌∙◌, arith}
use Rattle.std.specs.List.{AllByRecursion, AllZip}
use Rattle.std.specs.Prelude.{slice_get}
use Rattle.std.proofs.lemmas.Bool.{cases_Bool, leb-true, false≢true}
use Rattle.fs_kinds.specs.declared.placement.Entry.{Entry}
use Rattle.fs_kinds.specs.declared.slot.Slot.{Slot}
use Rattle.fs_kinds.specs.Placement.{slots_of}
use Rattle.fs_kinds.specs.PriceTable.{PriceTable}
use Rattle.fs_kinds.specs.Slot.{is_rising}
use Rattle.fs_model.specs.declared.test.Test.{Test}
use Rattle.fs_model.specs.Allows.{Shows, Allows}
use Rattle.fs_model.specs.Allows as placements
use Rattle.fs_model.specs.Execution.{Execution}
use Rattle.fs_model.specs.Witness.{Witness}
use Rattle.fs_model.proofs.Rising.{rising-slots_from}
use Rattle.fs_board_offers.specs.Offers.{Offers, are_offered, slots, cost, precedes, is_better, IsPlacement, IsCheapest, offers_of}
use Rattle.fs_board_offers.specs.Parts.{Part, undecided, floor, is_under, is_undecided, child_parts, slots_in_part}
use Rattle.fs_board_offers.specs.Pruning.{is_pruned}
use Rattle.fs_cert_evidence.specs.Widths.{width, is_within_width, IsExactWidth}
use Rattle.fs_cert_evidence.specs.Certificate.{Certificate, Version, First, Second, Fourth, Cycles, Listed, Inferred, Item, SplitAt, Costly, Refuted, Bounded}
use Rattle.fs_cert_evidence.specs.Certificate as priced_answers
use Rattle.fs_board_offers.specs.Priced as valid_priced
use Rattle.fs_board_offers.specs.Valid.{Forbid, RefutesBy, Covers, IsValid, IsValidFor, IsBest, IsRight, is_costly}
use Rattle.fs_board_offers.specs.Bounds.{IsNoBetter}
use Rattle.fs_model_laws.proofs.Ranked.{first-less}
use Rattle.fs_board_offers.proofs.Floors.{floor-cost, slots-under}
use Rattle.fs_board_offers.proofs.Bounded.{exact-under, rising-filled}
use Rattle.fs_board_offers.proofs.Broken.{IsBroken, broken-no-better}
use Rattle.fs_check_certificate.specs.Shown.{IsBetterBy, IsShown}
use Rattle.fs_values.specs.ThinAir.{CanBeListed}
use Rattle.fs_verdict_laws.proofs.Deciding.{cycles_forbid_all}
use Rattle.fs_verdict_laws.proofs.Covering.{forbids}
use Rattle.fs_board_offers.specs.Trees.{IsPart}
use Rattle.fs_model_laws.proofs.Places.{count_one, at-append, at-more, at-end, once-counted}
use Rattle.fs_board_offers.proofs.PartsOfTests.{part-child, part-root, under-root}
use Rattle.fs_board_offers.proofs.Children.{one-child, rising-part}
use Rattle.fs_board_offers.proofs.Final.{filling-shows}
use Rattle.fs_board_offers.proofs.Priced.{same-slots, same-better, same-cost, same-cheapest, to-prices, from-prices}

-- one of the parts has the placement under it
record IsUnderSome (parts : List Part) (q : List Entry) : Type 0 where
  number : ℕ
  part : Part
  at : slice_get parts number ≡ Some part
  under : is_under part q ≡ true

-- what the version asks of the answer: nothing is cheaper, or nothing is better
abbrev IsNoBest : Version → Offers → List Entry → List Entry → Type 0
IsNoBest First offers p q = cost offers q < cost offers p → ⊥
IsNoBest Second offers p q = is_better offers q p ≡ false
IsNoBest Fourth offers p q = is_better offers q p ≡ false

no-best : (version : Version) (offers : Offers) (p q : List Entry) → IsNoBetter offers (Some p) q → IsNoBest version offers p q
no-best First offers p q worse =
    λ cheaper. false≢true (sym worse ∙ first-less (cost offers q) (cost offers p) (precedes offers q p) cheaper)
no-best Second offers p q worse = worse
no-best Fourth offers p q worse = worse

-- ---- which witness shows the outcome

module _ (t : Test) (part : Part) (q : List Entry) (rising : is_rising (slots_in_part part) ≡ true) (same : slots_of q ≡ slots_in_part part)
    (ws : List Witness) where
  -- the execution shows the outcome with the other placement too, or is broken by it
  shown-or-broken : (e : Execution) → Shows t (floor part) e → Shows t q e ⊎ IsBroken part q (width t e)
  shown-or-broken e shown = elim (cases_Bool (is_within_width t e q)) [
    | inl within ↦ inl (record { execution = (exact q (ap is_rising same ∙ rising)).0 within; outcome = shown.outcome })
    | inr broken ↦ inr (record {
      floor = (exact (floor part) (rising-filled None part rising)).1 shown.execution;
      broken = broken;
    })
  ]
    where
      exact : IsExactWidth t e
      exact = exact-under t (floor part) e shown

  shown-or-all-broken : (js : List ℕ) (es : List Execution) → AllZip (RefutesBy t ws (floor part)) js es
      → IsShown t ws q ⊎ AllByRecursion (IsBroken part q) (map (width t) es)
  shown-or-all-broken [] [] each = inr tt
  shown-or-all-broken [] (e ∷ es) each = absurd each
  shown-or-all-broken (j ∷ js) [] each = absurd each
  shown-or-all-broken (j ∷ js) (e ∷ es) each = elim (shown-or-broken e each.0.2.1) [
    | inl shown ↦ inl (j, (e, (each.0.0, each.0.1, (each.0.2.0, shown))))
    | inr broken ↦ elim (shown-or-all-broken js es each.1) [
      | inl shown ↦ inl shown
      | inr rest ↦ inr (broken, rest)
    ]
  ]

bounded-shown : (t : Test) (offers : Offers) (ws : List Witness) (bound : Option (List Entry)) (part : Part) (js : List ℕ) (es : List Execution)
    (q : List Entry) → is_rising (slots_in_part part) ≡ true → AllZip (RefutesBy t ws (floor part)) js es
    → is_pruned offers bound part (map (width t) es) ≡ true → are_offered offers q ≡ true → is_under part q ≡ true
    → IsShown t ws q ⊎ IsNoBetter offers bound q
bounded-shown t offers ws bound part js es q rising each pruned offered under =
    elim (shown-or-all-broken t part q rising (slots-under part q under) ws js es each) [
      | inl shown ↦ inl shown
      | inr broken ↦ inr (broken-no-better offers bound part q under offered (map (width t) es) broken pruned)
    ]

allowed : (t : Test) (ws : List Witness) (q : List Entry) → IsShown t ws q → Allows t q
allowed t ws q shown = (shown.1.0, shown.1.1.2.1)

either-way : (version : Version) (t : Test) (offers : Offers) (ws : List Witness) (p q : List Entry)
    → IsShown t ws q ⊎ IsNoBetter offers (Some p) q → IsShown t ws q ⊎ IsNoBest version offers p q
either-way version t offers ws p q decided = elim decided [
  | inl shown ↦ inl shown
  | inr worse ↦ inr (no-best version offers p q worse)
]

module _ (t : Test) (offers : Offers) (rises : is_rising (slots offers) ≡ true) where
  costly-leaf : (version : Version) (ws : List Witness) (p : List Entry) (part : Part) (q : List Entry) → IsPart offers part
      → IsPlacement offers q → is_under part q ≡ true → is_costly version offers p part ≡ true → IsShown t ws q ⊎ IsNoBest version offers p q
  costly-leaf First ws p part q is placement under costly =
      let least = floor-cost offers part q under in
      let most = leb-true (cost offers p) (cost offers (floor part)) costly in
      inr (λ cheaper. omega (arith, least, most, cheaper))
  costly-leaf Second ws p part q is placement under costly =
      bounded-shown t offers ws (Some p) part [] [] q (rising-part offers part rises is) tt costly placement.offered under
  costly-leaf Fourth ws p part q is placement under costly =
      bounded-shown t offers ws (Some p) part [] [] q (rising-part offers part rises is) tt costly placement.offered under

  abbrev AreParts : List Part → Type 0
  AreParts parts = (k : ℕ) (part : Part) → slice_get parts k ≡ Some part → IsPart offers part

  rest-parts : (part : Part) (parts : List Part) → AreParts (part ∷ parts) → AreParts parts
  rest-parts part parts each = λ k other at. each (suc k) other at

  children-parts : (slot : Slot) (part : Part) (parts : List Part) → AreParts (part ∷ parts) → AreParts (child_parts offers slot part ++ parts)
  children-parts slot part parts each = λ k other at. elim (at-append (child_parts offers slot part) parts k other at) [
    | inl child ↦ part-child offers slot part other k (each 0 part refl) child
    | inr later ↦ each (suc later.0) other later.1
  ]

  -- what lies under a part that is split lies under a child, and what lies under a later part still does
  under-children : (slot : Slot) (part : Part) (parts : List Part) (q : List Entry) → AreParts (part ∷ parts) → IsPlacement offers q
      → is_undecided slot part ≡ true → (k : ℕ) (other : Part) → slice_get (part ∷ parts) k ≡ Some other → is_under other q ≡ true
      → IsUnderSome (child_parts offers slot part ++ parts) q
  under-children slot part parts q each placement free zero other at under =
      let same : part ≡ other = cc in
      let one = one-child offers slot part q rises (each 0 part refl) placement free
      ∙ (ap (λ o. count_one (is_under o q)) same ∙ ap count_one under) in
      let once = once-counted (λ child. is_under child q) (child_parts offers slot part) one in
      record {
        number = once.number;
        part = once.item;
        at = at-more (child_parts offers slot part) parts once.number once.item once.at;
        under = once.passes;
      }
  under-children slot part parts q each placement free (suc k) other at under = record {
    number = length (child_parts offers slot part) + k;
    part = other;
    at = at-end (child_parts offers slot part) parts (length (child_parts offers slot part) + k) k other refl at;
    under = under;
  }

  module _ (c : Certificate) (p q : List Entry) (placement : IsPlacement offers q) where
    covered : (items : List Item) (parts : List Part) → AreParts parts → Covers t offers c p parts items
        → (k : ℕ) (part : Part) → slice_get parts k ≡ Some part → is_under part q ≡ true
        → IsShown t c.witnesses q ⊎ IsNoBest c.version offers p q
    covered items [] each covers k part at under = absurd (cc)
    covered [] (first ∷ parts) each covers k part at under = absurd covers
    covered (SplitAt number ∷ items) (first ∷ parts) each covers k part at under =
        let some = under-children covers.0 first parts q each placement covers.2 k part at under in
        covered items (child_parts offers covers.0 first ++ parts) (children-parts covers.0 first parts each) covers.3
        some.number some.part some.at some.under
    covered (Costly ∷ items) (first ∷ parts) each covers zero part at under =
        let same : first ≡ part = cc in
        costly-leaf c.version c.witnesses p first q (each 0 first refl) placement (ap (λ o. is_under o q) same ∙ under) covers.0
    covered (Costly ∷ items) (first ∷ parts) each covers (suc k) part at under =
        covered items parts (rest-parts first parts each) covers.1 k part at under
    covered (Refuted j ∷ items) (first ∷ parts) each covers zero part at under =
        let same : first ≡ part = cc in
        let shown = filling-shows t first q covers.0.0 (ap (λ o. is_under o q) same ∙ under) covers.0.1.2.1 in
        inl (j, (covers.0.0, (covers.0.1.0, covers.0.1.1, (covers.0.1.2.0, shown))))
    covered (Refuted j ∷ items) (first ∷ parts) each covers (suc k) part at under =
        covered items parts (rest-parts first parts each) covers.1 k part at under
    covered (Bounded js ∷ items) (first ∷ parts) each covers zero part at under =
        let same : first ≡ part = cc in
        let is = each 0 first refl in
        either-way c.version t offers c.witnesses p q
        (bounded-shown t offers c.witnesses (Some p) first js covers.0.0 q (rising-part offers first rises is) covers.0.1
        covers.0.2 placement.offered (ap (λ o. is_under o q) same ∙ under))
    covered (Bounded js ∷ items) (first ∷ parts) each covers (suc k) part at under =
        covered items parts (rest-parts first parts each) covers.1 k part at under

  root-part : AreParts (undecided offers ∷ [])
  root-part zero part at = let same : undecided offers ≡ part = cc in subst (IsPart offers) same (part-root offers)
  root-part (suc k) part at = absurd (cc)

  decided : (c : Certificate) (p q : List Entry) → IsValidFor t offers c p → IsPlacement offers q
      → IsShown t c.witnesses q ⊎ IsNoBest c.version offers p q
  decided c p q valid placement =
      covered c p q placement c.tree (undecided offers ∷ []) root-part valid.tree 0 (undecided offers) refl (under-root offers q placement)

  first-best : (p : List Entry) → IsPlacement offers p → (Allows t p → ⊥)
      → ((q : List Entry) → IsPlacement offers q → Allows t q ⊎ (is_better offers q p ≡ false))
      → IsCheapest t offers p
  first-best p placement forbids each = record {
    placement = placement;
    forbids = forbids;
    better = λ q other better. elim (each q other) [
      | inl allowed ↦ allowed
      | inr worse ↦ absurd (false≢true (sym worse ∙ better))
    ];
  }

  -- what the tree shows of the answer, by the version
  best : (version : Version) (p : List Entry) → IsPlacement offers p → (Allows t p → ⊥)
      → ((q : List Entry) → IsPlacement offers q → Allows t q ⊎ IsNoBest version offers p q) → IsBest version t offers p
  best First p placement forbids each = record {
    placement = placement;
    forbids = forbids;
    cheaper = λ q other cheaper. elim (each q other) [ inl allowed ↦ allowed | inr never ↦ absurd (never cheaper) ];
  }
  best Second p placement forbids each = first-best p placement forbids each
  best Fourth p placement forbids each = first-best p placement forbids each

  -- what is to show that the placement forbids the outcome does so
  forbidden : CanBeListed t → (p : List Entry) (cycles : Cycles) → Forbid t p cycles → Allows t p → ⊥
  forbidden listed p (Listed cycles) shown = cycles_forbid_all t listed p cycles shown
  forbidden listed p (Inferred inferences) shown = forbids t listed p inferences shown

  valid-best : CanBeListed t → (c : Certificate) (p : List Entry) → IsValidFor t offers c p → IsBest c.version t offers p
  valid-best listed c p valid =
      best c.version p valid.answered.placement (forbidden listed p c.cycles valid.cycles) (λ q placement.
      elim (decided c p q valid placement) [ inl shown ↦ inl (allowed t c.witnesses q shown) | inr worse ↦ inr worse ])

  valid-for-offers : CanBeListed t → (c : Certificate) (answer : Option (List Entry)) → IsValid t offers c answer
      → IsRight c.version t offers answer
  valid-for-offers listed c (Some p) valid = valid-best listed c p valid
  valid-for-offers listed c None valid = (valid.execution, valid.refutes)

-- ---- of prices

module _ (t : Test) (prices : PriceTable) where
  best-priced : (version : Version) (p : List Entry) → IsBest version t (offers_of t prices) p → priced_answers.IsBest version t prices p
  best-priced First p is =
      let over = is.placement.slots ∙ same-slots t prices in record {
        placement = to-prices t prices p is.placement;
        forbids = is.forbids;
        cheaper = λ q placement cheaper.
            let mine = same-cost t prices q placement.slots in
            let theirs = same-cost t prices p over in
            is.cheaper q (from-prices t prices q placement) (omega (arith, mine, theirs, cheaper));
      }
  best-priced Second p is = (same-cheapest t prices p).0 is
  best-priced Fourth p is = (same-cheapest t prices p).0 is

  right-priced : (version : Version) (answer : Option (List Entry)) → IsRight version t (offers_of t prices) answer
      → priced_answers.IsRight version t prices answer
  right-priced version (Some p) is = best-priced version p is
  right-priced version None is = is

  pub valid-right : CanBeListed t → (c : Certificate) (answer : Option (List Entry)) → valid_priced.IsValid t prices c answer
      → priced_answers.IsRight c.version t prices answer
  valid-right listed c answer valid =
      right-priced c.version answer
      (valid-for-offers t (offers_of t prices) (ap is_rising (same-slots t prices) ∙ rising-slots_from 0 t.codes) listed c answer valid)

  -- under a better placement a witness shows the outcome
  not-both : (version : Version) (p q : List Entry) → IsPlacement (offers_of t prices) p → IsPlacement (offers_of t prices) q
      → IsNoBest version (offers_of t prices) p q → IsBetterBy version prices q p → ⊥
  not-both First p q is placement never cheaper =
      let mine = same-cost t prices q (placement.slots ∙ same-slots t prices) in
      let theirs = same-cost t prices p (is.slots ∙ same-slots t prices) in
      never (omega (arith, mine, theirs, cheaper))
  not-both Second p q is placement worse better =
      false≢true (sym worse ∙ (same-better t prices q p (placement.slots ∙ same-slots t prices) (is.slots ∙ same-slots t prices) ∙ better))
  not-both Fourth p q is placement worse better =
      false≢true (sym worse ∙ (same-better t prices q p (placement.slots ∙ same-slots t prices) (is.slots ∙ same-slots t prices) ∙ better))

  pub better-shown : (c : Certificate) (p q : List Entry) → valid_priced.IsValidFor t prices c p → placements.IsPlacement t prices q
      → IsBetterBy c.version prices q p → IsShown t c.witnesses q
  better-shown c p q valid placement better =
      let there = from-prices t prices q placement in
      elim (decided t (offers_of t prices) (ap is_rising (same-slots t prices) ∙ rising-slots_from 0 t.codes) c p q valid there) [
        | inl shown ↦ shown
        | inr worse ↦ absurd (not-both c.version p q valid.answered.placement there worse better)
      ]
