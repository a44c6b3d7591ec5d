-- A finished board has the answer: each placement lies under a leaf that is closed for a reason.
use Rattle.std.proofs.Common.{◌≡◌, ◌⊎◌, ℕ, zero, suc, Bool, true, false, not, Option, None, Some, unwrap_or, List, [], ◌∷◌, ◌++◌, map, inl, inr, refl, sym, ap, ap₂, subst, ◌∙◌}
use Rattle.std.specs.Prelude.{slice_get}
use Rattle.std.specs.List.{All, AllZip, list_any, flat_map, range_with_len}
use Rattle.std.proofs.lemmas.Bool.{and_parts, and_from, or_parts, or_from, false≢true, true≢false}
use Rattle.std.proofs.lemmas.List.Elements.{All-nil, All-cons}
use Rattle.fs_kinds.specs.declared.kind.Kind.{Kind}
use Rattle.fs_kinds.specs.declared.kind.Kind.TheVariants.{RwRw}
use Rattle.fs_kinds.specs.declared.placement.Entry.{Entry}
use Rattle.fs_kinds.specs.declared.slot.Slot.{Slot}
use Rattle.fs_kinds.specs.Kind.{is_subset}
use Rattle.fs_kinds.specs.Placement.{all_with, pairs_kept, is_weaker}
use Rattle.fs_board_offers.specs.Offers.{Offers, entry_cost, IsPlacement, slots, are_offered, IsCheapest}
use Rattle.fs_model.specs.declared.test.Test.{Test}
use Rattle.fs_model.specs.Slots.{slot_at}
use Rattle.fs_model.specs.Execution.{Execution}
use Rattle.fs_model.specs.Witness.{Witness}
use Rattle.fs_model.specs.Allows.{Shows, Allows}
use Rattle.fs_cert_evidence.specs.Widths.{Width, width}
use Rattle.fs_board_offers.specs.Parts.{Part, Decision, floor, filled, is_under, slots_in_part}
use Rattle.fs_board_offers.specs.Pruning.{is_empty, breaking_at, is_breakable, least, least_break, are_apart, sum_of, lower_bound, is_no_better}
use Rattle.fs_board_offers.specs.Valid.{Refutes, RefutesBy}
use Rattle.fs_board_offers.specs.Board.{Board, Node, Status, Open, Held, Split, Costly, Witnessed, Bounded, Posted, is_open, is_held, has_node, is_finished}
use Rattle.fs_board_offers.specs.Histories.{LogEntry, IsHistory}
use Rattle.fs_model_laws.proofs.PlacedPairs.{subset_from}
use Rattle.fs_model_laws.proofs.Weakening.{kept-at, shows-weaker}
use Rattle.fs_board_offers.specs.Bounds.{IsNoBetter}
use Rattle.fs_model_laws.proofs.Ranked.{entry_of}
use Rattle.fs_board_offers.proofs.Floors.{decision, IsEntryOf, under-parts, decided-entry, slots-under}
use Rattle.fs_board_offers.proofs.Bounded.{slots_of-filled_with, bounded}
use Rattle.fs_board_offers.proofs.OneWitness.{each-fits, unbroken-shows}
use Rattle.fs_board_offers.specs.Trees.{is_split, IsPart}
use Rattle.fs_board_offers.specs.Closing.{IsClosedFor, IsFinalAnswer}
use Rattle.fs_board_offers.proofs.Leaves.{history-leaf}
use Rattle.fs_board_offers.proofs.Closed.{history-right}
use Rattle.fs_board_offers.specs.Questions.{HasTop}
use Rattle.fs_kinds.specs.Slot.{is_rising}
use Rattle.fs_kinds.proofs.Entries.{slots_of-all_with}
use Rattle.fs_board_offers.proofs.Children.{rising-part}

-- ---- what lies under a part is weaker than its filling

filled_entry : Decision → Entry
filled_entry d = record { slot = d.slot; kind = unwrap_or d.decided (Some RwRw) }

kind-below : (kind : Option Kind) → is_subset (pairs_kept kind) (pairs_kept (Some RwRw)) ≡ true
kind-below kind = each-fits (λ s. pairs_kept (Some RwRw)) (slot_at 0 0) kind refl

entry-below : (s : Slot) (decided : Option (Option Kind)) (e : Entry) → IsEntryOf (decision s decided) e
    → is_subset (pairs_kept e.kind) (pairs_kept (unwrap_or decided (Some RwRw))) ≡ true
entry-below s None e is = kind-below e.kind
entry-below s (Some kind) e is =
    ap (λ f. is_subset (pairs_kept f.kind) (pairs_kept kind)) (sym (decided-entry s kind e is))
    ∙ subset_from (pairs_kept kind) (pairs_kept kind) (λ pair kept. kept)

weaker-under : (part : Part) (q : List Entry) → is_under part q ≡ true → is_weaker q (filled part) ≡ true
weaker-under [] [] under = refl
weaker-under [] (e ∷ q) under = absurd (false≢true under)
weaker-under (d ∷ part) [] under = absurd (false≢true under)
weaker-under (d ∷ part) (e ∷ q) under =
    let parts = under-parts d part e q under in
    and_from _ _ (entry-below d.slot d.decided e parts.entry) (weaker-under part q parts.rest)

-- an execution that shows the outcome under the filling shows it for each completion
pub filling-shows : (t : Test) (part : Part) (q : List Entry) (e : Execution) → is_under part q ≡ true → Shows t (filled part) e → Shows t q e
filling-shows t part q e under shown =
    shows-weaker t q (filled part) e
    (kept-at q (filled part) (slots-under part q under ∙ sym (slots_of-filled_with (Some RwRw) part)) (weaker-under part q under)) shown

-- the part over rw,rw everywhere is filled so
full-entry : (d : Slot) (decided : Option (Option Kind)) (s : Slot) → IsEntryOf (decision d decided) (entry_of s (Some RwRw))
    → entry_of d (unwrap_or decided (Some RwRw)) ≡ entry_of s (Some RwRw)
full-entry d None s is = ap (λ u. entry_of u (Some RwRw)) is.slot
full-entry d (Some kind) s is = decided-entry d kind (entry_of s (Some RwRw)) is

pub filled-full : (part : Part) (ss : List Slot) → is_under part (all_with (Some RwRw) ss) ≡ true → filled part ≡ all_with (Some RwRw) ss
filled-full [] [] under = refl
filled-full [] (s ∷ ss) under = absurd (false≢true under)
filled-full (d ∷ part) [] under = absurd (false≢true under)
filled-full (d ∷ part) (s ∷ ss) under =
    let parts = under-parts d part (entry_of s (Some RwRw)) (all_with (Some RwRw) ss) under in
    ap₂ (λ e p. e ∷ p) (full-entry d.slot d.decided s parts.entry) (filled-full part ss parts.rest)

-- ---- a closed node

pub all-shown : (t : Test) (ws : List Witness) (p : List Entry) (js : List ℕ) (es : List Execution) → AllZip (RefutesBy t ws p) js es → All (Shows t p) es
all-shown t ws p [] [] each = All-nil (Shows t p)
all-shown t ws p [] (e ∷ es) each = absurd each
all-shown t ws p (j ∷ js) [] each = absurd each
all-shown t ws p (j ∷ js) (e ∷ es) each = All-cons (Shows t p) e es each.0.2.1 (all-shown t ws p js es each.1)

-- ---- a lower bound that can't be had

nothing-breaks : (offers : Offers) (w : Width) (part : Part) → flat_map (breaking_at offers w) part ≡ []
    → list_any (is_breakable offers w) part ≡ false
nothing-breaks offers w [] none = refl
nothing-breaks offers w (d ∷ part) none =
    let both = both-empty (breaking_at offers w d) (flat_map (breaking_at offers w) part) none in
    or_from _ _ (ap (λ es. not (is_empty es)) both.0) (nothing-breaks offers w part both.1)
  where
    both-empty : (es fs : List Entry) → es ++ fs ≡ [] → (es ≡ []) × (fs ≡ [])
    both-empty [] fs none = (refl, none)
    both-empty (e ∷ es) fs none = absurd (true≢false (ap (λ xs. not (is_empty xs)) none))

-- where something breaks it, there is a least break
record HasLeast (offers : Offers) (part : Part) (w : Width) : Type 0 where
  cost : ℕ
  least : least_break offers part w ≡ Some cost

broken-or-not : (offers : Offers) (w : Width) (part : Part) → (list_any (is_breakable offers w) part ≡ false) ⊎ HasLeast offers part w
broken-or-not offers w part = by_list (flat_map (breaking_at offers w) part) refl
  where
    by_list : (es : List Entry) → flat_map (breaking_at offers w) part ≡ es
        → (list_any (is_breakable offers w) part ≡ false) ⊎ HasLeast offers part w
    by_list [] none = inl (nothing-breaks offers w part none)
    by_list (e ∷ es) some = inr (record { cost = _; least = ap (λ fs. least (map (entry_cost offers) fs)) some })

no-rest : (offers : Offers) (part : Part) (n : ℕ) (rest : Option ℕ) → is_no_better offers None part (sum_of (Some n) rest) ≡ true
    → is_no_better offers None part rest ≡ true
no-rest offers part n None none = refl
no-rest offers part n (Some m) none = absurd (false≢true none)

module _ (t : Test) (offers : Offers) (top : HasTop offers) (rises : is_rising (slots offers) ≡ true) (part : Part)
    (same : slots_in_part part ≡ slots offers) where
  -- with no bound one of the witnesses has no breakable slot
  unbroken-witness : (ws : List Witness) (js : List ℕ) (es : List Execution) → AllZip (RefutesBy t ws (floor part)) js es
      → is_no_better offers None part (lower_bound offers part (map (width t) es)) ≡ true
      → (j : ℕ) × Refutes t ws (filled part) j
  unbroken-witness ws [] [] each none = absurd (false≢true none)
  unbroken-witness ws [] (e ∷ es) each none = absurd each
  unbroken-witness ws (j ∷ js) [] each none = absurd each
  unbroken-witness ws (j ∷ js) (e ∷ es) each none = elim (broken-or-not offers (width t e) part) [
    | inl unbroken ↦ (j, (e, (each.0.0, each.0.1, (each.0.2.0, (unbroken-shows t offers part e top rises same each.0.2.1).0 unbroken))))
    | inr some ↦ unbroken-witness ws js es each.1
        (no-rest offers part some.cost (lower_bound offers part (map (width t) es))
        (sym (ap (λ n. is_no_better offers None part (sum_of n (lower_bound offers part (map (width t) es)))) some.least) ∙ none))
  ]

-- ---- leaves of a finished board

none-there : {X : Type 0} (test : X → Bool) (xs : List X) (k : ℕ) (x : X) → list_any test xs ≡ false → slice_get xs k ≡ Some x → test x ≡ false
none-there test [] k x none at = absurd (cc)
none-there test (y ∷ ys) zero x none at = let same : y ≡ x = cc in sym (ap test same) ∙ (or_parts _ _ none).0
none-there test (y ∷ ys) (suc k) x none at = none-there test ys k x (or_parts (test y) _ none).1 at

-- neither split nor open nor held
pub record IsClosed (status : Status) : Type 0 where
  pub unsplit : is_split status ≡ false
  pub taken : is_open status ≡ false
  pub free : is_held status ≡ false

module _ (t : Test) (offers : Offers) where
  -- what lies under a closed node is allowed or no better than the bound
  pub closed-decides : (bound : Option (List Entry)) (ws : List Witness) (part : Part) (status : Status) (q : List Entry)
      → is_rising (slots_in_part part) ≡ true → IsClosed status → IsClosedFor t offers bound ws part status
      → are_offered offers q ≡ true → is_under part q ≡ true → Allows t q ⊎ IsNoBetter offers bound q
  closed-decides bound ws part Open q rising closed reason offered under = absurd (true≢false closed.taken)
  closed-decides bound ws part (Held w) q rising closed reason offered under = absurd (true≢false closed.free)
  closed-decides bound ws part (Split slot first) q rising closed reason offered under = absurd (true≢false closed.unsplit)
  closed-decides bound ws part Costly q rising closed reason offered under =
      bounded t offers bound part [] q rising (All-nil (Shows t (floor part))) reason offered under
  closed-decides bound ws part (Witnessed j) q rising closed reason offered under =
      inl (reason.0, filling-shows t part q reason.0 under reason.1.2.1)
  closed-decides bound ws part (Bounded first count) q rising closed reason offered under =
      bounded t offers bound part reason.0 q rising
      (all-shown t ws (floor part) (range_with_len first count) reason.0 reason.1) reason.2 offered under
  closed-decides bound ws part Posted q rising closed reason offered under =
      bounded t offers bound part [] q rising (All-nil (Shows t (floor part))) reason offered under

  -- with no bound a witness shows the outcome under its filling
  pub closed-refutes : HasTop offers → is_rising (slots offers) ≡ true → (ws : List Witness) (part : Part) (status : Status) → IsPart offers part → IsClosed status
      → IsClosedFor t offers None ws part status → (j : ℕ) × Refutes t ws (filled part) j
  closed-refutes top rises ws part Open is closed reason = absurd (true≢false closed.taken)
  closed-refutes top rises ws part (Held w) is closed reason = absurd (true≢false closed.free)
  closed-refutes top rises ws part (Split slot first) is closed reason = absurd (true≢false closed.unsplit)
  closed-refutes top rises ws part Costly is closed reason = absurd (false≢true reason)
  closed-refutes top rises ws part (Witnessed j) is closed reason = (j, reason)
  closed-refutes top rises ws part (Bounded first count) is closed reason =
      unbroken-witness t offers top rises part is.slots ws (range_with_len first count) reason.0 reason.1
      (and_parts (are_apart offers part (map (width t) reason.0)) _ reason.2).1
  closed-refutes top rises ws part Posted is closed reason = absurd (false≢true reason)

  -- the leaf of a placement on a finished board
  pub record IsUnder (board : Board) (q : List Entry) : Type 0 where
    pub node : Node
    pub part : IsPart offers node.part
    pub closed : IsClosed node.status
    pub reason : IsClosedFor t offers board.bound board.witnesses node.part node.status
    pub under : is_under node.part q ≡ true

  not-true : (b : Bool) → not b ≡ true → b ≡ false
  not-true true h = absurd (false≢true h)
  not-true false h = refl

  pub finished-leaf : (limit : ℕ) (log : List LogEntry) (board : Board) (q : List Entry) → is_rising (slots offers) ≡ true
      → IsHistory t offers limit log board → is_finished board ≡ true → IsPlacement offers q → IsUnder board q
  finished-leaf limit log board q rises history finished placement =
      let leaf = history-leaf t offers limit log board rises history q placement in
      let right = history-right t offers limit log board history in
      let over = and_parts (not (is_split leaf.node.status)) (is_under leaf.node.part q) leaf.leaf in
      let done = and_parts (not (has_node is_open board)) (not (has_node is_held board)) finished in
      record {
        node = leaf.node;
        part = right.parts leaf.number leaf.node leaf.at;
        closed = record {
          unsplit = not-true (is_split leaf.node.status) over.0;
          taken = none-there (λ node. is_open node.status) board.nodes leaf.number leaf.node (not-true (has_node is_open board) done.0) leaf.at;
          free = none-there (λ node. is_held node.status) board.nodes leaf.number leaf.node (not-true (has_node is_held board) done.1) leaf.at;
        };
        reason = right.closed leaf.number leaf.node leaf.at;
        under = over.1;
      }

  -- ---- the answer

  -- what the board says of each placement
  pub decided-by : (limit : ℕ) (log : List LogEntry) (board : Board) (q : List Entry) → is_rising (slots offers) ≡ true
      → IsHistory t offers limit log board → is_finished board ≡ true → IsPlacement offers q
      → Allows t q ⊎ IsNoBetter offers board.bound q
  decided-by limit log board q rises history finished placement =
      let leaf = finished-leaf limit log board q rises history finished placement in
      closed-decides board.bound board.witnesses leaf.node.part leaf.node.status q
      (rising-part offers leaf.node.part rises leaf.part) leaf.closed leaf.reason placement.offered leaf.under

  -- where there is no bound nothing forbids the outcome
  pub none-forbid : (limit : ℕ) (log : List LogEntry) (board : Board) → is_rising (slots offers) ≡ true
      → IsHistory t offers limit log board → is_finished board ≡ true → board.bound ≡ None
      → (q : List Entry) → IsPlacement offers q → Allows t q
  none-forbid limit log board rises history finished is q placement =
      elim (decided-by limit log board q rises history finished placement) [
        | inl allowed ↦ allowed
        | inr worse ↦ absurd (subst (λ (b : Option (List Entry)). IsNoBetter offers b q) is worse)
      ]

  pub cheapest : (limit : ℕ) (log : List LogEntry) (board : Board) → is_rising (slots offers) ≡ true
      → IsHistory t offers limit log board → is_finished board ≡ true
      → (p : List Entry) → board.bound ≡ Some p → IsCheapest t offers p
  cheapest limit log board rises history finished p is =
      let forbidden = (history-right t offers limit log board history).bound p is in
      record {
        placement = forbidden.placement;
        forbids = forbidden.forbids;
        better = λ q placement better.
            elim (decided-by limit log board q rises history finished placement) [
              | inl allowed ↦ allowed
              | inr worse ↦ absurd (false≢true (sym (subst (λ (b : Option (List Entry)). IsNoBetter offers b q) is worse) ∙ better))
            ];
      }

  by-bound : (limit : ℕ) (log : List LogEntry) (board : Board) → is_rising (slots offers) ≡ true → HasTop offers
      → IsHistory t offers limit log board → is_finished board ≡ true
      → (bound : Option (List Entry)) → board.bound ≡ bound → IsFinalAnswer t offers board.witnesses bound
  by-bound limit log board rises top history finished (Some p) is = cheapest limit log board rises history finished p is
  by-bound limit log board rises top history finished None is =
      let full = all_with (Some RwRw) (slots offers) in
      let placement : IsPlacement offers full = record { slots = slots_of-all_with (Some RwRw) (slots offers); offered = top } in
      let leaf = finished-leaf limit log board full rises history finished placement in
      let found = closed-refutes top rises board.witnesses leaf.node.part leaf.node.status leaf.part leaf.closed
      (subst (λ (b : Option (List Entry)). IsClosedFor t offers b board.witnesses leaf.node.part leaf.node.status) is leaf.reason) in
      (found.0, subst (λ (p : List Entry). Refutes t board.witnesses p found.0) (filled-full leaf.node.part (slots offers) leaf.under) found.1)

  pub final : (limit : ℕ) (log : List LogEntry) (board : Board) → is_rising (slots offers) ≡ true → HasTop offers
      → IsHistory t offers limit log board → is_finished board ≡ true → IsFinalAnswer t offers board.witnesses board.bound
  final limit log board rises top history finished = by-bound limit log board rises top history finished board.bound refl
