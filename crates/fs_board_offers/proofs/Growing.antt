-- How many nodes a board has and may still get: no more than the tree of all placements, whatever the history.
use Rattle.std.proofs.Common.{◌≡◌, ℕ, zero, suc, ◌+◌, ◌*◌, ◌<◌, ◌≤◌, nat_lt, Bool, true, false, ◌&&◌, Option, None, Some, is_none, List, [], ◌∷◌, ◌++◌, map, length, inl, inr, refl, sym, ap, ap₂, subst, ◌∙◌, arith, length-append}
use Rattle.std.specs.Prelude.{if◌then◌else◌, slice_get, slice_set, find, max, unwrap_or, filter}
use Rattle.std.specs.List.{list_all, sum_by}
use Rattle.std.proofs.lemmas.Bool.{and_parts, or_cases, ltb-true, false≢true, cases_Bool}
use Rattle.std.proofs.lemmas.Bool.Decides.{nat_tests}
use Rattle.std.proofs.lemmas.List.{length-map}
use Rattle.std.proofs.lemmas.List.Sums.{sum_by-cons, sum_by-append}
use Rattle.fs_kinds.specs.declared.kind.Kind.{Kind}
use Rattle.fs_kinds.specs.declared.slot.Slot.{Slot}
use Rattle.fs_board_offers.specs.Offers.{Offers, Offer, slots, options, offer_at, nothing, is_offered}
use Rattle.fs_kinds.specs.Slot.{is_same_slot, is_before, is_rising}
use Rattle.fs_model.specs.declared.test.Test.{Test}
use Rattle.fs_board_offers.specs.Parts.{Part, Decision, is_undecided, decide, child_parts, slots_in_part}
use Rattle.fs_board_offers.specs.Board.{Board, Node, Open, Split, SplitAt, Full, is_held_by, opening, Status}
use Rattle.fs_board_offers.specs.Histories.{LogEntry, Lead, IsHistory, Steps}
use Rattle.fs_board_offers.specs.Sizes.{tree_size, most_options, whole_tree}
use Rattle.fs_board_offers.specs.Trees.{free_slots, room, is_split, IsPart}
use Rattle.fs_model_laws.proofs.Places.{count_one, count-cons, length-set, sum-set}
use Rattle.fs_board_offers.proofs.PartsOfTests.{decide-after, undecided-after}
use Rattle.fs_board_offers.proofs.Children.{rising-part}
use Rattle.fs_board_offers.proofs.Moves.{node_of, status-at, held-by-unsplit, Move, Stays, Marks, Splits, moves}
use Rattle.fs_board_offers.proofs.Leaves.{opened, AreParts, move-parts, root-parts, history-parts}
use Rattle.fs_model_laws.proofs.Ranked.{nil≢cons}
use Rattle.fs_kinds.specs.Kind.{all_kinds}
use Rattle.std.proofs.lemmas.Nat.{mul-le}

-- ---- undecided slots

abbrev is_free : Decision → Bool
is_free d = is_none d.decided

free-there : (slot : Slot) (d : Decision) (part : Part) → is_same_slot d.slot slot ≡ true
    → list_all (is_before d.slot) (slots_in_part part) ≡ true → is_undecided slot (d ∷ part) ≡ true → is_none d.decided ≡ true
free-there slot d part same after free = elim (or_cases (is_same_slot d.slot slot && is_none d.decided) (is_undecided slot part) free) [
  | inl here ↦ (and_parts (is_same_slot d.slot slot) (is_none d.decided) here).1
  | inr later ↦ absurd (false≢true (sym (undecided-after d.slot slot part same after) ∙ later))
]

free-later : (slot : Slot) (d : Decision) (part : Part) → is_same_slot d.slot slot ≡ false → is_undecided slot (d ∷ part) ≡ true
    → is_undecided slot part ≡ true
free-later slot d part other free = elim (or_cases (is_same_slot d.slot slot && is_none d.decided) (is_undecided slot part) free) [
  | inl here ↦ absurd (false≢true (sym other ∙ (and_parts (is_same_slot d.slot slot) (is_none d.decided) here).0))
  | inr rest ↦ rest
]

-- one slot less is undecided below
free-decide : (slot : Slot) (kind : Option Kind) (part : Part) → is_rising (slots_in_part part) ≡ true → is_undecided slot part ≡ true
    → free_slots part ≡ suc (free_slots (decide slot part kind))
free-decide slot kind [] rising free = absurd (false≢true free)
free-decide slot kind (d ∷ part) rising free =
    let rise = and_parts (list_all (is_before d.slot) (slots_in_part part)) _ rising in
    elim (cases_Bool (is_same_slot d.slot slot)) [
      | inl same ↦ (
          let old = count-cons is_free d part in
          let one : count_one (is_none d.decided) ≡ 1 = ap count_one (free-there slot d part same rise.0 free) in
          let changed : decide slot (d ∷ part) kind ≡ record { slot = d.slot; decided = Some kind } ∷ part =
          ap₂ (λ (h : Decision) hs. h ∷ hs)
          (ap (λ b. if b then record { slot = d.slot; decided = Some kind } else d) same)
          (decide-after d.slot slot kind part same rise.0) in
          let new : free_slots (decide slot (d ∷ part) kind) ≡ free_slots (record { slot = d.slot; decided = Some kind } ∷ part) =
          ap free_slots changed in
          let none = count-cons is_free (record { slot = d.slot; decided = Some kind }) part in
          omega (arith, old, one, new, none)
          )
      | inr other ↦ (
          let old = count-cons is_free d part in
          let rest = free-decide slot kind part rise.1 (free-later slot d part other free) in
          let new : free_slots (decide slot (d ∷ part) kind) ≡ free_slots (d ∷ decide slot part kind) =
          ap (λ b. free_slots ((if b then record { slot = d.slot; decided = Some kind } else d) ∷ decide slot part kind)) other in
          let first = count-cons is_free d (decide slot part kind) in
          omega (arith, old, rest, new, first)
          )
    ]

free-undecided : (ss : List Slot) → free_slots (map (λ slot. record { slot = slot; decided = None }) ss) ≡ length ss
free-undecided [] = refl
free-undecided (s ∷ ss) =
    let first = count-cons is_free (record { slot = s; decided = None }) (map (λ slot. record { slot = slot; decided = None }) ss) in
    let rest = free-undecided ss in
    omega (arith, first, rest)

-- ---- how many options there may be

some-options : (o : Offer) (os : Offers) → 1 ≤ most_options (o ∷ os)
some-options o os = at-least-one (length (filter (is_offered o) (map (λ kind. Some kind) all_kinds))) (most_options os)
  where
    at-least-one : (m n : ℕ) → 1 ≤ max (suc m) n
    at-least-one m n = omega arith

most-found : (os : Offers) (s : Slot) (o : Offer) → find (λ x. is_same_slot x.slot s) os ≡ Some o → length (options o) ≤ most_options os
most-found [] s o found = absurd (cc)
most-found (x ∷ os) s o found = by_test (is_same_slot x.slot s) (λ later. most-found os s o later) found
  where
    by_test : (b : Bool) → (find (λ y. is_same_slot y.slot s) os ≡ Some o → length (options o) ≤ most_options os)
        → (if b then Some x else find (λ y. is_same_slot y.slot s) os) ≡ Some o → length (options o) ≤ most_options (x ∷ os)
    by_test true others here =
        let same : x ≡ o = cc in
        let long = ap (λ y. length (options y)) same in
        omega (arith, long)
    by_test false others later = let rest = others later in omega (arith, rest)

most-at : (os : Offers) (s : Slot) (r : Option Offer) → find (λ x. is_same_slot x.slot s) os ≡ r → 1 ≤ most_options os
    → length (options (unwrap_or r (nothing s))) ≤ most_options os
most-at os s None found some = some
most-at os s (Some o) found some = most-found os s o found

-- an undecided slot has no more options than the most
most-there : (offers : Offers) (slot : Slot) (part : Part) → IsPart offers part → is_undecided slot part ≡ true
    → length (options (offer_at offers slot)) ≤ most_options offers
most-there offers slot [] is free = absurd (false≢true free)
most-there [] slot (d ∷ part) is free = absurd (nil≢cons d.slot (slots_in_part part) (sym is.slots))
most-there (o ∷ os) slot (d ∷ part) is free = most-at (o ∷ os) slot (find (λ x. is_same_slot x.slot slot) (o ∷ os)) refl (some-options o os)

-- ---- sizes

times : (n x : ℕ) → suc n * x ≡ x + n * x
times n x = grind arith

times-more : (m n x : ℕ) → m ≤ n → m * x ≤ n * x
times-more m n x low = mul-le m x n x low (omega arith)

module _ (offers : Offers) where
  -- the node, and the most that there may be below it
  abbrev pub whole : Node → ℕ
  whole node = 1 + room offers node

  whole-children : (slot : Slot) (part : Part) (n : ℕ) (ks : List (Option Kind)) → is_rising (slots_in_part part) ≡ true
      → is_undecided slot part ≡ true → free_slots part ≡ suc n
      → sum_by whole (opened (map (decide slot part) ks)) ≡ length ks * (1 + tree_size offers n)
  whole-children slot part n [] rising free is = let none : 0 * (1 + tree_size offers n) ≡ 0 = omega arith in sym none
  whole-children slot part n (k ∷ ks) rising free is =
      let less = free-decide slot k part rising free in
      let same : free_slots (decide slot part k) ≡ n = omega (arith, less, is) in
      let here : whole (node_of (decide slot part k) Open) ≡ 1 + tree_size offers n = ap (λ m. 1 + tree_size offers m) same in
      let first = sum_by-cons whole (node_of (decide slot part k) Open) (opened (map (decide slot part) ks)) in
      let rest = whole-children slot part n ks rising free is in
      let more = times (length ks) (1 + tree_size offers n) in
      omega (arith, here, first, rest, more)

  record HasFree (part : Part) : Type 0 where
    number : ℕ
    free : free_slots part ≡ suc number

  some-free : (slot : Slot) (part : Part) → is_rising (slots_in_part part) ≡ true → is_undecided slot part ≡ true → HasFree part
  some-free slot part rising free = record { number = _; free = free-decide slot None part rising free }

  size-with : (n m : ℕ) → n ≡ suc m → tree_size offers n ≡ most_options offers * (1 + tree_size offers m)
  size-with n m is = ap (tree_size offers) is

  -- a split hands on no more than there was
  split-whole : (slot : Slot) (part : Part) (x : Status) → is_rising (slots offers) ≡ true → is_split x ≡ false → IsPart offers part
      → is_undecided slot part ≡ true → 1 + sum_by whole (opened (child_parts offers slot part)) ≤ whole (node_of part x)
  split-whole slot part x rises unsplit is free =
      let rising = rising-part offers part rises is in
      let some = some-free slot part rising free in
      let ways = options (offer_at offers slot) in
      let kids = whole-children slot part some.number ways rising free some.free in
      let old : whole (node_of part x) ≡ 1 + tree_size offers (free_slots part) =
      ap (λ b. 1 + (if b then 0 else tree_size offers (free_slots part))) unsplit in
      let size = size-with (free_slots part) some.number some.free in
      let most = times-more (length ways) (most_options offers) (1 + tree_size offers some.number) (most-there offers slot part is free) in
      omega (arith, kids, old, size, most)

  whole-sum : (nodes : List Node) → sum_by whole nodes ≡ length nodes + sum_by (room offers) nodes
  whole-sum [] = refl
  whole-sum (node ∷ nodes) =
      let first = sum_by-cons whole node nodes in
      let second = sum_by-cons (room offers) node nodes in
      let rest = whole-sum nodes in
      omega (arith, first, second, rest)

  module _ (t : Test) (rises : is_rising (slots offers) ≡ true) where
    move-size : (old new : Board) → AreParts t offers old → Move t offers old new → sum_by whole new.nodes ≤ sum_by whole old.nodes
    move-size old new each (Stays same) = let all = ap (λ b. sum_by whole b.nodes) same in omega (arith, all)
    move-size old new each (Marks k part x y at unsplit still nodes limit reason) =
        let after = ap (sum_by whole) nodes in
        let set = sum-set whole old.nodes k (node_of part x) (node_of part y) at in
        let same : whole (node_of part x) ≡ whole (node_of part y) =
        ap (λ b. 1 + (if b then 0 else tree_size offers (free_slots part))) (unsplit ∙ sym still) in
        omega (arith, after, set, same)
    move-size old new each (Splits k part x slot at unsplit free room_there is) =
        let kids = opened (child_parts offers slot part) in
        let split = node_of part (Split slot (length old.nodes)) in
        let after : sum_by whole new.nodes ≡ sum_by whole (slice_set old.nodes k split ++ kids) = ap (λ b. sum_by whole b.nodes) is in
        let both = sum_by-append whole (slice_set old.nodes k split) kids in
        let set = sum-set whole old.nodes k (node_of part x) split at in
        let less = split-whole slot part x rises unsplit (each k (node_of part x) at) free in
        omega (arith, after, both, set, less)

    lead-size : (old : Board) (log : List LogEntry) (new : Board) → AreParts t offers old → Lead t offers old log new
        → sum_by whole new.nodes ≤ sum_by whole old.nodes
    lead-size old [] new each same = let all = ap (λ b. sum_by whole b.nodes) same in omega (arith, all)
    lead-size old (entry ∷ log) new each lead =
        let move = moves t offers old entry.worker entry.event entry.reply lead.0 lead.1 in
        let rest = lead-size lead.0 log new (move-parts t offers old lead.0 each move) lead.2 in
        let here = move-size old lead.0 each move in
        omega (arith, rest, here)

    pub history-size : (limit : ℕ) (log : List LogEntry) (board : Board) → IsHistory t offers limit log board
        → length board.nodes + sum_by (room offers) board.nodes ≤ 1 + whole_tree offers
    history-size limit log board history =
        let less = lead-size (opening offers limit) log board (root-parts t offers limit) history in
        let all = whole-sum board.nodes in
        let root : sum_by whole (opening offers limit).nodes ≡ 0 + (1 + whole_tree offers) =
        ap (λ n. 0 + (1 + tree_size offers n)) (free-undecided (slots offers)) in
        omega (arith, less, all, root)

  -- ---- the limit

  pub record IsWithin (most : ℕ) (board : Board) : Type 0 where
    pub limit : board.limit ≡ most
    pub nodes : length board.nodes ≤ most + 1

  not-less : (m n : ℕ) → nat_lt m n ≡ false → n ≤ m
  not-less m n none = grind (arith, nat_tests)

  move-within : (t : Test) (limit : ℕ) (old new : Board) → IsWithin limit old → Move t offers old new → IsWithin limit new
  move-within t limit old new within (Stays same) = subst (IsWithin limit) (sym same) within
  move-within t limit old new within (Marks k part x y at unsplit still nodes kept reason) =
      let long : length new.nodes ≡ length old.nodes = ap length nodes ∙ length-set old.nodes k (node_of part y) in
      let most = within.nodes in
      record { limit = kept ∙ within.limit; nodes = omega (arith, long, most) }
  move-within t limit old new within (Splits k part x slot at unsplit free room_there is) =
      let kids = opened (child_parts offers slot part) in
      let set = slice_set old.nodes k (node_of part (Split slot (length old.nodes))) in
      let first : length new.nodes ≡ length (set ++ kids) = ap (λ b. length b.nodes) is in
      let both = length-append set kids in
      let long = length-set old.nodes k (node_of part (Split slot (length old.nodes))) in
      let many = length-map (child_parts offers slot part) (λ p. node_of p Open) in
      let each = length-map (options (offer_at offers slot)) (decide slot part) in
      let fits = not-less (old.limit + 1) (length old.nodes + length (options (offer_at offers slot))) room_there in
      let same = within.limit in
      record { limit = ap (λ b. b.limit) is ∙ within.limit; nodes = omega (arith, first, both, long, many, each, fits, same) }

  lead-within : (t : Test) (limit : ℕ) (old : Board) (log : List LogEntry) (new : Board) → IsWithin limit old
      → Lead t offers old log new → IsWithin limit new
  lead-within t limit old [] new within same = subst (IsWithin limit) (sym same) within
  lead-within t limit old (entry ∷ log) new within lead =
      lead-within t limit lead.0 log new
      (move-within t limit old lead.0 within (moves t offers old entry.worker entry.event entry.reply lead.0 lead.1)) lead.2

  pub history-within : (t : Test) (limit : ℕ) (log : List LogEntry) (board : Board) → IsHistory t offers limit log board
      → IsWithin limit board
  history-within t limit log board history =
      lead-within t limit (opening offers limit) log board (record { limit = refl; nodes = omega arith }) history

  -- ---- a full board

  part-of-sum : {X : Type 0} (f : X → ℕ) (xs : List X) (k : ℕ) (x : X) → slice_get xs k ≡ Some x → f x ≤ sum_by f xs
  part-of-sum f [] k x at = absurd (cc)
  part-of-sum f (y ∷ ys) zero x at =
      let same : f y ≡ f x = ap f (let e : y ≡ x = cc in e) in
      let first = sum_by-cons f y ys in
      omega (arith, same, first)
  part-of-sum f (y ∷ ys) (suc k) x at =
      let rest = part-of-sum f ys k x at in
      let first = sum_by-cons f y ys in
      omega (arith, rest, first)

  at-least : (m x : ℕ) → m ≤ m * (1 + x)
  at-least m x = grind arith

  -- a split that the limit refuses: the tree of all placements may be larger than the limit
  pub full-large : (t : Test) (limit : ℕ) (log : List LogEntry) (board : Board) (w k : ℕ) (slot : Slot) (new : Board)
      → is_rising (slots offers) ≡ true → IsHistory t offers limit log board → Steps t offers board w (SplitAt k slot) Full new
      → limit < whole_tree offers
  full-large t limit log board w k slot new rises history step =
      let part = step.0 in
      let has = status-at (is_held_by w) board k part step.1 in
      let is = history-parts t offers limit log board history k (node_of part has.status) has.at in
      let some = some-free slot part (rising-part offers part rises is) step.2 in
      let ways = options (offer_at offers slot) in
      let here : room offers (node_of part has.status) ≡ tree_size offers (free_slots part) =
      ap (λ b. if b then 0 else tree_size offers (free_slots part)) (held-by-unsplit w has.status has.passes) in
      let size = size-with (free_slots part) some.number some.free in
      let most = at-least (most_options offers) (tree_size offers some.number) in
      let many = most-there offers slot part is step.2 in
      let one = part-of-sum (room offers) board.nodes k (node_of part has.status) has.at in
      let all = history-size t rises limit log board history in
      let full = ltb-true (board.limit + 1) (length board.nodes + length ways) step.3 in
      let same = (history-within t limit log board history).limit in
      omega (arith, here, size, most, many, one, all, full, same)
