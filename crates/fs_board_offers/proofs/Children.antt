-- What lies under a part lies under exactly one of its children.
use Rattle.std.proofs.Common.{◌≡◌, ◌==◌, Bool, true, false, cond, ◌&&◌, Option, None, Some, is_none, List, [], ◌∷◌, map, filter, inl, inr, refl, sym, ap, ap₂, subst, ◌∙◌, arith}
use Rattle.std.specs.Prelude.{if◌then◌else◌, drop, slice_index_or}
use Rattle.std.specs.List.{list_all, count_by}
use Rattle.std.proofs.lemmas.Bool.{and_parts, or_cases, eqb-true, false≢true, cases_Bool}
use Rattle.fs_kinds.specs.declared.kind.Kind.{Kind}
use Rattle.fs_kinds.specs.declared.kind.Kind.TheVariants.{RR, RW, RRw, WR, WW, WRw, RwR, RwW, RwRw, Tso}
use Rattle.fs_kinds.specs.declared.placement.Entry.{Entry}
use Rattle.fs_kinds.specs.declared.slot.Slot.{Slot}
use Rattle.fs_kinds.specs.Kind.{all_kinds}
use Rattle.fs_kinds.specs.Placement.{slots_of, rank}
use Rattle.fs_board_offers.specs.Offers.{Offers, is_offered, are_offered, IsPlacement, Offer, slots, options, offer_at, is_offered_at}
use Rattle.fs_kinds.specs.Slot.{is_same_slot, is_before, is_rising}
use Rattle.fs_board_offers.specs.Parts.{Part, Decision, agrees, is_under, is_undecided, decide, child_parts, slots_in_part}
use Rattle.fs_model_laws.proofs.Ranked.{nil≢cons, rank-injective}
use Rattle.fs_model_laws.proofs.PlacedPairs.{same_slot}
use Rattle.fs_board_offers.specs.Trees.{IsPart}
use Rattle.fs_model_laws.proofs.Places.{count_one, count-cons, count-same, count-map, count-filter, count-and}
use Rattle.fs_board_offers.proofs.PartsOfTests.{decide-after, undecided-after}

-- a placement's kind at an undecided slot: under which children it lies
pub record IsChosen (offers : Offers) (slot : Slot) (part : Part) (q : List Entry) : Type 0 where
  pub kind : Option Kind
  pub offered : is_offered (offer_at offers slot) kind ≡ true
  pub under : (k : Option Kind) → is_under (decide slot part k) q ≡ ((rank k == rank kind) && is_under part q)

front : (a b c : Bool) → (a && (b && c)) ≡ (b && (a && c))
front true b c = refl
front false true c = refl
front false false c = refl

middle : (a b c : Bool) → (a && b && c) ≡ (b && (a && true && c))
middle true true c = refl
middle true false c = refl
middle false true c = refl
middle false false c = refl

module _ (offers : Offers) (slot : Slot) where
  chosen-here : (d : Decision) (part : Part) (e : Entry) (q : List Entry) → is_same_slot d.slot slot ≡ true
      → list_all (is_before d.slot) (slots_in_part part) ≡ true → is_offered (offer_at offers slot) e.kind ≡ true
      → is_undecided slot (d ∷ part) ≡ true → IsChosen offers slot (d ∷ part) (e ∷ q)
  chosen-here d part e q same after offered free = record {
    kind = e.kind;
    offered = offered;
    under = λ k.
        ap₂ (λ (h : Decision) hs. is_under (h ∷ hs) (e ∷ q))
        (ap (λ b. if b then record { slot = d.slot; decided = Some k } else d) same)
        (decide-after d.slot slot k part same after)
        ∙ (middle (is_same_slot d.slot e.slot) (rank k == rank e.kind) (is_under part q)
        ∙ ap (λ b. (rank k == rank e.kind) && (is_same_slot d.slot e.slot && b && is_under part q)) (sym (agrees-all d.decided undecided_here)));
  }
    where
      agrees-all : (decided : Option (Option Kind)) → is_none decided ≡ true → agrees decided e.kind ≡ true
      agrees-all None none = refl
      agrees-all (Some kind) none = absurd (false≢true none)

      undecided_here : is_none d.decided ≡ true
      undecided_here = elim (or_cases (is_same_slot d.slot slot && is_none d.decided) (is_undecided slot part) free) [
        | inl here ↦ (and_parts (is_same_slot d.slot slot) (is_none d.decided) here).1
        | inr later ↦ absurd (false≢true (sym (undecided-after d.slot slot part same after) ∙ later))
      ]

  chosen-later : (d : Decision) (part : Part) (e : Entry) (q : List Entry) → is_same_slot d.slot slot ≡ false
      → IsChosen offers slot part q → IsChosen offers slot (d ∷ part) (e ∷ q)
  chosen-later d part e q other later = record {
    kind = later.kind;
    offered = later.offered;
    under = λ k.
        ap (λ b. is_under ((if b then record { slot = d.slot; decided = Some k } else d) ∷ decide slot part k) (e ∷ q)) other
        ∙ (ap (λ b. is_same_slot d.slot e.slot && agrees d.decided e.kind && b) (later.under k)
        ∙ front (is_same_slot d.slot e.slot && agrees d.decided e.kind) (rank k == rank later.kind) (is_under part q));
  }

  chosen : (part : Part) (q : List Entry) → is_rising (slots_in_part part) ≡ true → slots_of q ≡ slots_in_part part
      → are_offered offers q ≡ true → is_undecided slot part ≡ true → IsChosen offers slot part q
  chosen [] q rising same offered free = absurd (false≢true free)
  chosen (d ∷ part) [] rising same offered free = absurd (nil≢cons d.slot (slots_in_part part) same)
  chosen (d ∷ part) (e ∷ q) rising same offered free =
      let rise = and_parts (list_all (is_before d.slot) (slots_in_part part)) _ rising in
      let kinds = and_parts (is_offered_at offers e) _ offered in
      elim (cases_Bool (is_same_slot d.slot slot)) [
        | inl here ↦ chosen-here d part e q here rise.0 (offered-there here kinds.0) free
        | inr other ↦ chosen-later d part e q other (chosen part q rise.1 (ap (drop 1) same) kinds.1 (later other))
      ]
    where
      first : e.slot ≡ d.slot
      first = ap (λ ss. slice_index_or ss 0 e.slot) same

      offered-there : is_same_slot d.slot slot ≡ true → is_offered_at offers e ≡ true → is_offered (offer_at offers slot) e.kind ≡ true
      offered-there here is =
          subst (λ (s : Slot). is_offered (offer_at offers s) e.kind ≡ true) (first ∙ same_slot d.slot slot here) is

      later : is_same_slot d.slot slot ≡ false → is_undecided slot part ≡ true
      later other = elim (or_cases (is_same_slot d.slot slot && is_none d.decided) (is_undecided slot part) free) [
        | inl here ↦ absurd (false≢true (sym other ∙ (and_parts (is_same_slot d.slot slot) (is_none d.decided) here).0))
        | inr rest ↦ rest
      ]

-- ---- each offered kind is an option once

none-kind : (f : Option Kind → Bool) (ks : List Kind) → count_by (λ k. f (Some k) && (rank (Some k) == rank None)) ks ≡ 0
none-kind f [] = refl
none-kind f (k ∷ ks) =
    let first = count-cons (λ l. f (Some l) && (rank (Some l) == rank None)) k ks in
    let here : cond (f (Some k) && (rank (Some k) == rank None)) 1 0 ≡ 0 = ap count_one (never (f (Some k)) (rank (Some k) == rank None) (table_above k)) in
    let rest = none-kind f ks in
    omega (arith, first, here, rest)
  where
    never : (a b : Bool) → b ≡ false → (a && b) ≡ false
    never true b none = none
    never false b none = refl

    table_above : (k : Kind) → (rank (Some k) == rank None) ≡ false
    table_above RR = refl
    table_above RW = refl
    table_above RRw = refl
    table_above WR = refl
    table_above WW = refl
    table_above WRw = refl
    table_above RwR = refl
    table_above RwW = refl
    table_above RwRw = refl
    table_above Tso = refl

each-kind : (kind : Kind) → count_by (λ k. rank (Some k) == rank (Some kind)) all_kinds ≡ 1
each-kind RR = refl
each-kind RW = refl
each-kind RRw = refl
each-kind WR = refl
each-kind WW = refl
each-kind WRw = refl
each-kind RwR = refl
each-kind RwW = refl
each-kind RwRw = refl
each-kind Tso = refl

offered-same : (offer : Offer) (k l : Option Kind) → is_offered offer l ≡ true
    → (is_offered offer k && (rank k == rank l)) ≡ (rank k == rank l)
offered-same offer k l offered = by_rank (rank k == rank l) refl
  where
    never : (a : Bool) → (a && false) ≡ false
    never true = refl
    never false = refl

    by_rank : (b : Bool) → (rank k == rank l) ≡ b → (is_offered offer k && (rank k == rank l)) ≡ (rank k == rank l)
    by_rank true same = ap (λ m. is_offered offer m && (rank k == rank l)) (rank-injective k l (eqb-true (rank k) (rank l) same))
        ∙ ap (λ b. b && (rank k == rank l)) offered
    by_rank false other = ap (λ b. is_offered offer k && b) other ∙ (never (is_offered offer k) ∙ sym other)

one-option : (offer : Offer) (kind : Option Kind) → is_offered offer kind ≡ true
    → count_by (λ k. rank k == rank kind) (options offer) ≡ 1
one-option offer None offered =
    let first = count-cons (λ k. rank k == rank None) None (filter (is_offered offer) (map (λ kind. Some kind) all_kinds)) in
    let picked = count-filter (λ k. rank k == rank None) (is_offered offer) (map (λ kind. Some kind) all_kinds) in
    let mapped = count-map (λ k. is_offered offer k && (rank k == rank None)) (λ kind. Some kind) all_kinds in
    let none = none-kind (is_offered offer) all_kinds in
    omega (arith, first, picked, mapped, none)
one-option offer (Some kind) offered =
    let first = count-cons (λ k. rank k == rank (Some kind)) None (filter (is_offered offer) (map (λ kind. Some kind) all_kinds)) in
    let here : count_one (rank None == rank (Some kind)) ≡ 0 = none_first kind in
    let picked = count-filter (λ k. rank k == rank (Some kind)) (is_offered offer) (map (λ kind. Some kind) all_kinds) in
    let mapped = count-map (λ k. is_offered offer k && (rank k == rank (Some kind))) (λ kind. Some kind) all_kinds in
    let same = count-same (λ k. is_offered offer (Some k) && (rank (Some k) == rank (Some kind))) (λ k. rank (Some k) == rank (Some kind))
    (λ k. offered-same offer (Some k) (Some kind) offered) all_kinds in
    let one = each-kind kind in
    omega (arith, first, here, picked, mapped, same, one)
  where
    none_first : (kind : Kind) → count_one (rank None == rank (Some kind)) ≡ 0
    none_first RR = refl
    none_first RW = refl
    none_first RRw = refl
    none_first WR = refl
    none_first WW = refl
    none_first WRw = refl
    none_first RwR = refl
    none_first RwW = refl
    none_first RwRw = refl
    none_first Tso = refl

-- ---- the children

pub rising-part : (offers : Offers) (part : Part) → is_rising (slots offers) ≡ true → IsPart offers part
    → is_rising (slots_in_part part) ≡ true
rising-part offers part rising is = ap is_rising is.slots ∙ rising

pub one-child : (offers : Offers) (slot : Slot) (part : Part) (q : List Entry) → is_rising (slots offers) ≡ true → IsPart offers part
    → IsPlacement offers q → is_undecided slot part ≡ true
    → count_by (λ child. is_under child q) (child_parts offers slot part) ≡ count_one (is_under part q)
one-child offers slot part q rising is placement free =
    let choice = chosen offers slot part q (rising-part offers part rising is) (placement.slots ∙ sym is.slots) placement.offered free in
    let ways = options (offer_at offers slot) in
    count-map (λ child. is_under child q) (decide slot part) ways
    ∙ (count-same (λ k. is_under (decide slot part k) q) (λ k. (rank k == rank choice.kind) && is_under part q) choice.under ways
    ∙ (count-and (λ k. rank k == rank choice.kind) (is_under part q) ways
    ∙ ap (λ n. cond (is_under part q) n 0) (one-option (offer_at offers slot) choice.kind choice.offered)))
