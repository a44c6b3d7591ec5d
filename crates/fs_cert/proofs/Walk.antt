-- The walk over a finished board: each node is split or closed, and its item with the trees of its children covers its
-- part.
use Rattle.std.proofs.Common.{◌≡◌, ◌≢◌, ℕ, zero, suc, ◌+◌, ◌<◌, ◌≤◌, Bool, true, false, cond, ◌&&◌, ◌||◌, not, Option, Some, None, unwrap_or, option_map, List, [], ◌∷◌, ◌++◌, map, length, take, drop, refl, ap, ap₂, sym, subst, ◌∙◌, arith}
use Rattle.std.specs.Prelude.{slice_get, slice_set, is_none, nat_lt}
use Rattle.std.specs.List.{AllZip, AllByRecursion, range_with_len, list_any, find, position_or_len}
use Rattle.std.proofs.lemmas.Bool.{and_parts, false≢true, true≢false}
use Rattle.std.proofs.lemmas.Bool.Decides.{nat_tests}
use Rattle.std.proofs.lemmas.List.{at_drop_more, append_assoc, append-nil, map-append}
use Rattle.std.proofs.lemmas.List.Folds.{find_at}
use Rattle.std.proofs.lemmas.Option.{slice_get_within, get_or_from_slice_get}
use Rattle.fs_kinds.specs.declared.placement.Entry.{Entry}
use Rattle.fs_kinds.specs.declared.slot.Slot.{Slot}
use Rattle.fs_kinds.specs.Slot.{is_same_slot}
use Rattle.fs_board_offers.specs.Offers.{Offers, slots, options, offer_at}
use Rattle.fs_kinds.proofs.SlotMap.{same_slot}
use Rattle.fs_model.specs.declared.test.Test.{Test}
use Rattle.fs_model.specs.Execution.{Execution}
use Rattle.fs_model.specs.Witness.{Witness}
use Rattle.fs_cert_evidence.specs.Widths.{width}
use Rattle.fs_board_offers.specs.Parts.{Part, undecided, is_undecided, child_parts, decide, floor, filled, slots_in_part}
use Rattle.fs_board_offers.specs.Pruning.{is_pruned}
use Rattle.fs_cert_evidence.specs.Certificate as said
use Rattle.fs_cert_evidence.specs.Certificate.{Certificate, First, Second, Fourth, Item, Version}
use Rattle.fs_board_offers.specs.Valid.{Covers, Refutes, RefutesBy, is_costly}
use Rattle.fs_board_offers.specs.Board.{Board, Node, Status, Open, Held, Split, Costly, Witnessed, Bounded, Posted, is_open, is_held, is_finished, has_node, opening}
use Rattle.fs_board_offers.specs.Histories.{LogEntry, Lead, IsHistory}
use Rattle.fs_board_offers.specs.Trees.{IsNode, IsSplitAt}
use Rattle.fs_board_offers.specs.Closing.{IsClosedFor}
use Rattle.fs_model_laws.proofs.Places.{at-more}
use Rattle.fs_board_offers.proofs.Moves.{node_of, Move, Stays, Marks, Splits, moves}
use Rattle.fs_board_offers.proofs.Leaves.{history-parts}
use Rattle.fs_board_offers.proofs.Closed.{history-right}
use Rattle.fs_board_offers.proofs.Splitting.{history-split}
use Rattle.fs_board.specs.View.{Search}
use Rattle.fs_cert.specs.inner.Copies.{StandsAt, AreNumbered}
use Rattle.fs_cert.specs.inner.Items.{number_in, item_at, below, AreBelow, HasNumbers, IsTreeOf, ways_of}
use Rattle.fs_cert.proofs.Runs.{run_below}
use Rattle.fs_cert.proofs.Weights.{weight, leaf-lighter, split-lighter}

-- ---- what stands under a number

pub numbered_at : (ws all : List Witness) (ns : List ℕ) (j : ℕ) (w : Witness) → AreNumbered ws all ns → slice_get all j ≡ Some w
    → (n : ℕ) × (slice_get ns j ≡ Some n) × StandsAt ws w n
numbered_at ws [] ns j w each at = absurd (cc)
numbered_at ws (v ∷ all) [] j w each at = absurd each
numbered_at ws (v ∷ all) (n ∷ ns) zero w each at = let same : v ≡ w = cc in (n, refl, subst (λ u. StandsAt ws u n) same each.0)
numbered_at ws (v ∷ all) (n ∷ ns) (suc j) w each at = numbered_at ws all ns j w each.1 at

-- what witnesses show that follow one another shows under their numbers
run_shows : (t : Test) (ws all : List Witness) (ns : List ℕ) (f : List Entry) → AreNumbered ws all ns → (first count : ℕ) (es : List Execution)
    → AllZip (RefutesBy t all f) (range_with_len first count) es → AllZip (RefutesBy t ws f) (take count (drop first ns)) es
run_shows t ws all ns f each first zero [] shown = tt
run_shows t ws all ns f each first zero (e ∷ es) shown = absurd shown
run_shows t ws all ns f each first (suc count) [] shown = absurd shown
run_shows t ws all ns f each first (suc count) (e ∷ es) shown =
    let w : Witness = shown.0.0 in
    let found = numbered_at ws all ns first w each shown.0.1 in
    let here : drop first ns ≡ found.0 ∷ drop (first + 1) ns =
    at_drop_more (λ ms. ms) ns first found.0 (slice_get_within ns first found.0 found.1)
    ∙ ap (λ n. n ∷ drop (first + 1) ns) (get_or_from_slice_get ns first found.0 found.0 found.1) in
    subst (λ ms. AllZip (RefutesBy t ws f) (take (suc count) ms) (e ∷ es)) (sym here)
    ((w, found.2.0, shown.0.2), run_shows t ws all ns f each (first + 1) count es shown.1)

-- ---- the number of a slot

less : (m n : ℕ) → m < n → nat_lt m n ≡ true
less m n lt = grind (arith, nat_tests)

find_same : (ss : List Slot) (slot : Slot) → list_any (λ s. is_same_slot s slot) ss ≡ true → find (λ s. is_same_slot s slot) ss ≡ Some slot
find_same [] slot some = absurd (false≢true some)
find_same (s ∷ ss) slot some = here (is_same_slot s slot) refl some (find_same ss slot)
  where
    here : (b : Bool) → is_same_slot s slot ≡ b → (b || list_any (λ u. is_same_slot u slot) ss) ≡ true
        → (list_any (λ u. is_same_slot u slot) ss ≡ true → find (λ u. is_same_slot u slot) ss ≡ Some slot)
        → cond (is_same_slot s slot) (Some s) (find (λ u. is_same_slot u slot) ss) ≡ Some slot
    here true is rest later = ap (λ b. cond b (Some s) (find (λ u. is_same_slot u slot) ss)) is ∙ ap (λ u. Some u) (same_slot s slot is)
    here false is rest later = ap (λ b. cond b (Some s) (find (λ u. is_same_slot u slot) ss)) is ∙ later rest

pub slot_found : (ss : List Slot) (slot : Slot) → list_any (λ s. is_same_slot s slot) ss ≡ true → slice_get ss (number_in ss slot) ≡ Some slot
slot_found ss slot some =
    let place = position_or_len (λ s. is_same_slot s slot) ss in
    let at : slice_get ss place ≡ Some slot = sym (find_at (λ s. is_same_slot s slot) ss) ∙ find_same ss slot some in
    let low = less place (length ss) (slice_get_within ss place slot at) in
    ap (λ b. slice_get ss (unwrap_or (cond b (Some place) None) (length ss))) low ∙ at

has_slot : (slot : Slot) (part : Part) → is_undecided slot part ≡ true → list_any (λ s. is_same_slot s slot) (slots_in_part part) ≡ true
has_slot slot [] free = absurd (false≢true free)
has_slot slot (d ∷ part) free = here (is_same_slot d.slot slot) (is_none d.decided) free (has_slot slot part)
  where
    here : (a b : Bool) → ((a && b) || is_undecided slot part) ≡ true
        → (is_undecided slot part ≡ true → list_any (λ s. is_same_slot s slot) (slots_in_part part) ≡ true)
        → (a || list_any (λ s. is_same_slot s slot) (slots_in_part part)) ≡ true
    here true b is later = refl
    here false b is later = later is

-- ---- the part of a node

abbrev pub part_in : Option Node → Part
part_in node = unwrap_or (option_map (λ n. n.part) node) []

abbrev pub part_of : List Node → ℕ → Part
part_of nodes k = part_in (slice_get nodes k)

run_parts : (nodes : List Node) (first : ℕ) (children : List Part)
    → ((i : ℕ) (child : Part) → slice_get children i ≡ Some child → (status : Status) × (slice_get nodes (first + i) ≡ Some (node_of child status)))
    → map (part_of nodes) (range_with_len first (length children)) ≡ children
run_parts nodes first [] at = refl
run_parts nodes first (child ∷ children) at =
    let here = at 0 child refl in
    let same : first + 0 ≡ first = omega arith in
    let own : part_of nodes first ≡ child = ap (λ k. part_of nodes k) (sym same) ∙ ap part_in here.1 in
    ap₂ (λ part parts. part ∷ parts) own (run_parts nodes (first + 1) children
    (λ i other is. let later = at (suc i) other is in
    let next : first + 1 + i ≡ first + suc i = omega arith in
    (later.0, ap (slice_get nodes) next ∙ later.1)))

-- ---- an item that covers a part

-- what a certificate must share with the board
pub record IsFor (s : Search) (numbers : List ℕ) (c : Certificate) (p : List Entry) : Type 0 where
  pub later : c.version ≢ First
  pub bound : s.board.bound ≡ Some p
  pub numbered : AreNumbered c.witnesses s.board.witnesses numbers

abbrev pub Whole : Search → Certificate → List Entry → List Part → List Item → Type 0
Whole s c p parts items = Covers s.question.test s.question.offers c p parts items

-- what covers the parts of these nodes makes of the items a whole tree
abbrev pub LeadsTo : Search → List ℕ → List ℕ → List Item → Type 0
LeadsTo s numbers pending items = (c : Certificate) (p : List Entry) → IsFor s numbers c p → (rest : List Item)
    → Whole s c p (map (part_of s.board.nodes) pending) rest → Whole s c p (undecided s.question.offers ∷ []) (items ++ rest)

-- but for the first version a leaf that costs too much is one of cost and order
pub pruned_in : (version : Version) (offers : Offers) (p : List Entry) (part : Part) → version ≢ First
    → is_costly version offers p part ≡ is_pruned offers (Some p) part []
pruned_in First offers p part later = absurd (later refl)
pruned_in Second offers p part later = refl
pruned_in Fourth offers p part later = refl

module _ (s : Search) (numbers : List ℕ) (c : Certificate) (p : List Entry) (is : IsFor s numbers c p) where
  costly : (part : Part) → is_pruned s.question.offers s.board.bound part [] ≡ true → is_costly c.version s.question.offers p part ≡ true
  costly part pruned =
      pruned_in c.version s.question.offers p part is.later
      ∙ (ap (λ b. is_pruned s.question.offers b part []) (sym is.bound) ∙ pruned)

  none_shown : (part : Part) (es : List Execution) → AllZip (RefutesBy s.question.test s.board.witnesses (floor part)) [] es
      → is_pruned s.question.offers s.board.bound part (map (width s.question.test) es) ≡ true → is_pruned s.question.offers s.board.bound part [] ≡ true
  none_shown part [] shown pruned = pruned
  none_shown part (e ∷ es) shown pruned = absurd shown

  refuted : (part : Part) (j : ℕ) → Refutes s.question.test s.board.witnesses (filled part) j
      → Refutes s.question.test c.witnesses (filled part) (unwrap_or (slice_get numbers j) 0)
  refuted part j refutes =
      let found = numbered_at c.witnesses s.board.witnesses numbers j refutes.1.0 is.numbered refutes.1.1 in
      let same : unwrap_or (slice_get numbers j) 0 ≡ found.0 = ap (λ o. unwrap_or o 0) found.1 in
      (refutes.0, (refutes.1.0, ap (slice_get c.witnesses) same ∙ found.2.0, refutes.1.2))

  -- a closed node's item covers its part
  leaf_covers : (ss : List Slot) (part : Part) (parts : List Part) (status : Status) (rest : List Item)
      → is_open status ≡ false → is_held status ≡ false
      → ((slot : Slot) (first : ℕ) → status ≡ Split slot first → ⊥)
      → IsClosedFor s.question.test s.question.offers s.board.bound s.board.witnesses part status
      → Whole s c p parts rest → Whole s c p (part ∷ parts) (item_at ss numbers status ∷ rest)
  leaf_covers ss part parts Open rest unopened unheld unsplit closed covered = absurd (true≢false unopened)
  leaf_covers ss part parts (Held w) rest unopened unheld unsplit closed covered = absurd (true≢false unheld)
  leaf_covers ss part parts (Split slot first) rest unopened unheld unsplit closed covered = absurd (unsplit slot first refl)
  leaf_covers ss part parts Costly rest unopened unheld unsplit closed covered = (costly part closed, covered)
  leaf_covers ss part parts (Witnessed j) rest unopened unheld unsplit closed covered = (refuted part j closed, covered)
  leaf_covers ss part parts (Bounded first zero) rest unopened unheld unsplit closed covered =
      (costly part (none_shown part closed.0 closed.1 closed.2), covered)
  leaf_covers ss part parts (Bounded first (suc count)) rest unopened unheld unsplit closed covered = (
    (
      closed.0,
      run_shows s.question.test c.witnesses s.board.witnesses numbers (floor part) is.numbered first (suc count) closed.0 closed.1,
      ap (λ b. is_pruned s.question.offers b part (map (width s.question.test) closed.0)) (sym is.bound) ∙ closed.2,
    ),
    covered,
  )
  leaf_covers ss part parts Posted rest unopened unheld unsplit closed covered = (costly part closed, covered)

-- ---- a finished board

test-of : (test : Status → Bool) (nodes : List Node) (k : ℕ) (node : Node) → list_any (λ n. test n.status) nodes ≡ false → slice_get nodes k ≡ Some node
    → test node.status ≡ false
test-of test [] k node none at = absurd (cc)
test-of test (n ∷ nodes) k node none at = here k at (test n.status) refl none (λ j rest there. test-of test nodes j node rest there)
  where
    here : (j : ℕ) → slice_get (n ∷ nodes) j ≡ Some node → (b : Bool) → test n.status ≡ b → (b || list_any (λ m. test m.status) nodes) ≡ false
        → ((i : ℕ) → list_any (λ m. test m.status) nodes ≡ false → slice_get nodes i ≡ Some node → test node.status ≡ false)
        → test node.status ≡ false
    here j there true is others later = absurd (true≢false others)
    here zero there false is others later = let same : n ≡ node = cc in sym (ap (λ m. test m.status) same) ∙ is
    here (suc j) there false is others later = later j others there

not-false : (b : Bool) → not b ≡ true → b ≡ false
not-false true is = absurd (false≢true is)
not-false false is = refl

-- the root stays wholly undecided
module _ (t : Test) (offers : Offers) where
  abbrev HasRoot : List Node → Type 0
  HasRoot nodes = (status : Status) × (slice_get nodes 0 ≡ Some (node_of (undecided offers) status))

  set-root : (nodes : List Node) (k : ℕ) (part : Part) (x y : Status) → slice_get nodes k ≡ Some (node_of part x) → HasRoot nodes
      → HasRoot (slice_set nodes k (node_of part y))
  set-root [] k part x y at root = absurd (cc)
  set-root (n ∷ nodes) zero part x y at root =
      let same : node_of part x ≡ node_of (undecided offers) root.0 = cc in
      (y, ap (λ (m : Node). Some (node_of m.part y)) same)
  set-root (n ∷ nodes) (suc k) part x y at root = (root.0, root.1)

  move-root : (old new : Board) → HasRoot old.nodes → Move t offers old new → HasRoot new.nodes
  move-root old new root (Stays same) = subst (λ (b : Board). HasRoot b.nodes) (sym same) root
  move-root old new root (Marks k part x y at unsplit still nodes limit reason) =
      subst HasRoot (sym nodes) (set-root old.nodes k part x y at root)
  move-root old new root (Splits k part x slot at unsplit free room is) =
      let set = set-root old.nodes k part x (Split slot (length old.nodes)) at root in
      subst (λ (b : Board). HasRoot b.nodes) (sym is) (set.0, at-more (slice_set old.nodes k (node_of part (Split slot (length old.nodes)))) _ 0 _ set.1)

  lead-root : (old : Board) (log : List LogEntry) (new : Board) → HasRoot old.nodes → Lead t offers old log new → HasRoot new.nodes
  lead-root old [] new root same = subst (λ (b : Board). HasRoot b.nodes) (sym same) root
  lead-root old (entry ∷ log) new root lead =
      lead-root lead.0 log new (move-root old lead.0 root (moves t offers old entry.worker entry.event entry.reply lead.0 lead.1)) lead.2

  pub history-root : (limit : ℕ) (log : List LogEntry) (board : Board) → IsHistory t offers limit log board → HasRoot board.nodes
  history-root limit log board history = lead-root (opening offers limit) log board (Open, refl) history

-- a finished board, by a legal history
pub record IsFinal (s : Search) : Type 0 where
  pub history : IsHistory s.question.test s.question.offers s.board.limit s.log s.board
  pub finished : is_finished s.board ≡ true

module _ (s : Search) (final : IsFinal s) where
  pub not-open : (k : ℕ) (node : Node) → IsNode s.board k node → is_open node.status ≡ false
  not-open k node at =
      let both = and_parts (not (has_node is_open s.board)) (not (has_node is_held s.board)) final.finished in
      test-of is_open s.board.nodes k node (not-false (has_node is_open s.board) both.0) at

  pub not-held : (k : ℕ) (node : Node) → IsNode s.board k node → is_held node.status ≡ false
  not-held k node at =
      let both = and_parts (not (has_node is_open s.board)) (not (has_node is_held s.board)) final.finished in
      test-of is_held s.board.nodes k node (not-false (has_node is_held s.board) both.1) at

  is-split : (k : ℕ) (part : Part) (slot : Slot) (first : ℕ) → IsNode s.board k (node_of part (Split slot first))
      → IsSplitAt s.question.offers s.board.nodes k part slot first
  is-split k part slot first at =
      history-split s.question.test s.question.offers s.board.limit s.log s.board final.history k part slot first at

  -- the last child is there
  children-there : (children : List Part) (first : ℕ)
      → ((i : ℕ) (child : Part) → slice_get children i ≡ Some child → (status : Status) × (slice_get s.board.nodes (first + i) ≡ Some (node_of child status)))
      → first ≤ length s.board.nodes → first + length children ≤ length s.board.nodes
  children-there [] first at low = omega (arith, low)
  children-there (child ∷ children) first at low =
      let here = at 0 child refl in
      let there = slice_get_within s.board.nodes (first + 0) (node_of child here.0) here.1 in
      let rest = children-there children (first + 1)
      (λ i other is. let later = at (suc i) other is in
      let next : first + 1 + i ≡ first + suc i = omega arith in
      (later.0, ap (slice_get s.board.nodes) next ∙ later.1))
      (omega (arith, there)) in
      omega (arith, rest)

-- a split makes a child for each way to decide the slot
length-map : {X Y : Type 0} (f : X → Y) (xs : List X) → length (map f xs) ≡ length xs
length-map f [] = refl
length-map f (x ∷ xs) = ap suc (length-map f xs)

pub ways-length : (offers : Offers) (slot : Slot) (part : Part) → length (child_parts offers slot part) ≡ length (options (offer_at offers slot))
ways-length offers slot part = length-map (decide slot part) (options (offer_at offers slot))

-- ---- one step of the walk

-- a node that the walk visits
pub record IsVisited (s : Search) (k : ℕ) (status : Status) : Type 0 where
  pub part : Part
  pub at : IsNode s.board k (node_of part status)
  pub unopened : is_open status ≡ false
  pub unheld : is_held status ≡ false
  pub below_all : AreBelow (ways_of s.question.offers status) (length s.board.nodes) status
  pub numbered : HasNumbers (length s.board.witnesses) status

module _ (s : Search) (final : IsFinal s) where
  split-within : (k : ℕ) (part : Part) (slot : Slot) (first : ℕ) → IsNode s.board k (node_of part (Split slot first))
      → first + length (options (offer_at s.question.offers slot)) ≤ length s.board.nodes
  split-within k part slot first at =
      let split = is-split s final k part slot first at in
      let children = child_parts s.question.offers slot part in
      let one = split.children 0 (decide slot part None) refl in
      let there = slice_get_within s.board.nodes (first + 0) (node_of (decide slot part None) one.0) one.1 in
      let all = children-there s final children first split.children (omega (arith, there)) in
      let many = ways-length s.question.offers slot part in
      omega (arith, all, many)

  within : (k : ℕ) (part : Part) (status : Status) → IsNode s.board k (node_of part status) → AreBelow (ways_of s.question.offers status) (length s.board.nodes) status
  within k part (Split slot first) at = split-within k part slot first at
  within k part Open at = tt
  within k part (Held w) at = tt
  within k part Costly at = tt
  within k part (Witnessed j) at = tt
  within k part (Bounded first count) at = tt
  within k part Posted at = tt

  shown-there : (part : Part) (first count : ℕ) (es : List Execution)
      → AllZip (RefutesBy s.question.test s.board.witnesses (floor part)) (range_with_len first (suc count)) es → first < length s.board.witnesses
  shown-there part first count [] shown = absurd shown
  shown-there part first count (e ∷ es) shown = slice_get_within s.board.witnesses first shown.0.0 shown.0.1

  numbers-there : (part : Part) (status : Status) → IsClosedFor s.question.test s.question.offers s.board.bound s.board.witnesses part status
      → HasNumbers (length s.board.witnesses) status
  numbers-there part (Bounded first (suc count)) closed = shown-there part first count closed.0 closed.1
  numbers-there part (Bounded first zero) closed = tt
  numbers-there part Open closed = tt
  numbers-there part (Held w) closed = tt
  numbers-there part (Split slot first) closed = tt
  numbers-there part Costly closed = tt
  numbers-there part (Witnessed j) closed = tt
  numbers-there part Posted closed = tt

  node-there : (nodes : List Node) (k : ℕ) → k < length nodes → (n : Node) × (slice_get nodes k ≡ Some n)
  node-there [] k low = absurd (omega (arith, low))
  node-there (n ∷ nodes) zero low = (n, refl)
  node-there (n ∷ nodes) (suc k) low = node-there nodes k (omega (arith, low))

  pub visited : (k : ℕ) (status : Status) → k < length s.board.nodes → ((n : Node) → slice_get s.board.nodes k ≡ Some n → status ≡ n.status)
      → IsVisited s k status
  visited k status low same =
      let node = node-there s.board.nodes k low in
      let own : node_of node.0.part status ≡ node.0 = ap (node_of node.0.part) (same node.0 node.1) in
      let at : IsNode s.board k (node_of node.0.part status) = node.1 ∙ ap (λ n. Some n) (sym own) in
      record {
        part = node.0.part;
        at = at;
        unopened = not-open s final k (node_of node.0.part status) at;
        unheld = not-held s final k (node_of node.0.part status) at;
        below_all = within k node.0.part status at;
        numbered = numbers-there node.0.part status
            ((history-right s.question.test s.question.offers s.board.limit s.log s.board final.history).closed k (node_of node.0.part status) at);
      }

  -- a node's item covers its part, where the trees of its children cover theirs
  module _ (numbers : List ℕ) (ss : List Slot) (slots_are : ss ≡ slots s.question.offers) (c : Certificate) (p : List Entry) (is : IsFor s numbers c p) where
    split-covers : (k : ℕ) (part : Part) (slot : Slot) (first : ℕ) (ks : List ℕ) (rest : List Item) → IsNode s.board k (node_of part (Split slot first))
        → Whole s c p (map (part_of s.board.nodes) (range_with_len first (length (options (offer_at s.question.offers slot))) ++ ks)) rest
        → Whole s c p (part ∷ map (part_of s.board.nodes) ks) (said.SplitAt (number_in ss slot) ∷ rest)
    split-covers k part slot first ks rest at covered =
        let split = is-split s final k part slot first at in
        let of_test = history-parts s.question.test s.question.offers s.board.limit s.log s.board final.history k (node_of part (Split slot first)) at in
        let own : slots_in_part part ≡ ss = of_test.slots ∙ sym slots_are in
        let known : list_any (λ u. is_same_slot u slot) ss ≡ true =
        ap (list_any (λ u. is_same_slot u slot)) (sym own) ∙ has_slot slot part split.free in
        let number : slice_get (slots s.question.offers) (number_in ss slot) ≡ Some slot =
        ap (λ l. slice_get l (number_in ss slot)) (sym slots_are) ∙ slot_found ss slot known in
        let ways = length (options (offer_at s.question.offers slot)) in
        let many : ways ≡ length (child_parts s.question.offers slot part) = sym (ways-length s.question.offers slot part) in
        let parts : map (part_of s.board.nodes) (range_with_len first ways ++ ks)
        ≡ child_parts s.question.offers slot part ++ map (part_of s.board.nodes) ks =
        map-append (part_of s.board.nodes) (range_with_len first ways) ks
        ∙ ap (λ l. l ++ map (part_of s.board.nodes) ks)
        (ap (λ n. map (part_of s.board.nodes) (range_with_len first n)) many
        ∙ run_parts s.board.nodes first (child_parts s.question.offers slot part) split.children) in
        (slot, number, split.free, subst (λ l. Whole s c p l rest) parts covered)

    closed-covers : (k : ℕ) (part : Part) (status : Status) (ks : List ℕ) (rest : List Item) → IsNode s.board k (node_of part status)
        → is_open status ≡ false → is_held status ≡ false → ((slot : Slot) (first : ℕ) → status ≡ Split slot first → ⊥)
        → Whole s c p (map (part_of s.board.nodes) ks) rest
        → Whole s c p (part ∷ map (part_of s.board.nodes) ks) (item_at ss numbers status ∷ rest)
    closed-covers k part status ks rest at unopened unheld unsplit covered =
        let right = history-right s.question.test s.question.offers s.board.limit s.log s.board final.history in
        leaf_covers s numbers c p is ss part (map (part_of s.board.nodes) ks) status rest unopened unheld unsplit
        (right.closed k (node_of part status) at) covered

    status-covers : (k : ℕ) (part : Part) (status : Status) (ks : List ℕ) (rest : List Item) → IsNode s.board k (node_of part status)
        → is_open status ≡ false → is_held status ≡ false
        → Whole s c p (map (part_of s.board.nodes) (below (ways_of s.question.offers status) status ++ ks)) rest
        → Whole s c p (part ∷ map (part_of s.board.nodes) ks) (item_at ss numbers status ∷ rest)
    status-covers k part (Split slot first) ks rest at unopened unheld covered = split-covers k part slot first ks rest at covered
    status-covers k part Open ks rest at unopened unheld covered = absurd (true≢false unopened)
    status-covers k part (Held w) ks rest at unopened unheld covered = absurd (true≢false unheld)
    status-covers k part Costly ks rest at unopened unheld covered =
        closed-covers k part Costly ks rest at unopened unheld (λ slot first e. absurd (cc)) covered
    status-covers k part (Witnessed j) ks rest at unopened unheld covered =
        closed-covers k part (Witnessed j) ks rest at unopened unheld (λ slot first e. absurd (cc)) covered
    status-covers k part (Bounded first count) ks rest at unopened unheld covered =
        closed-covers k part (Bounded first count) ks rest at unopened unheld (λ slot first e. absurd (cc)) covered
    status-covers k part Posted ks rest at unopened unheld covered =
        closed-covers k part Posted ks rest at unopened unheld (λ slot first e. absurd (cc)) covered

  pub steps : (numbers : List ℕ) (ss : List Slot) (k : ℕ) (ks : List ℕ) (status : Status) (items : List Item) → ss ≡ slots s.question.offers
      → IsVisited s k status → LeadsTo s numbers (k ∷ ks) items
      → LeadsTo s numbers (below (ways_of s.question.offers status) status ++ ks) (items ++ item_at ss numbers status ∷ [])
  steps numbers ss k ks status items slots_are visited leads = λ c p is rest covered.
      let own : part_of s.board.nodes k ≡ visited.part = ap part_in visited.at in
      let here = status-covers numbers ss slots_are c p is k visited.part status ks rest visited.at visited.unopened visited.unheld covered in
      let all = leads c p is (item_at ss numbers status ∷ rest)
      (subst (λ part. Whole s c p (part ∷ map (part_of s.board.nodes) ks) (item_at ss numbers status ∷ rest)) (sym own) here) in
      subst (Whole s c p (undecided s.question.offers ∷ [])) (sym (append_assoc items (item_at ss numbers status ∷ []) rest)) all

  -- at first the root alone is left
  pub begins : (numbers : List ℕ) → LeadsTo s numbers (0 ∷ []) []
  begins numbers = λ c p is rest covered.
      let root = history-root s.question.test s.question.offers s.board.limit s.log s.board final.history in
      let own : part_of s.board.nodes 0 ≡ undecided s.question.offers = ap part_in root.1 in
      subst (λ part. Whole s c p (part ∷ []) rest) own covered

  pub root-there : 0 < length s.board.nodes
  root-there =
      let root = history-root s.question.test s.question.offers s.board.limit s.log s.board final.history in
      slice_get_within s.board.nodes 0 (node_of (undecided s.question.offers) root.0) root.1

-- at last no part is left
pub ends : (s : Search) (numbers : List ℕ) (items : List Item) → LeadsTo s numbers [] items → IsTreeOf s numbers items
ends s numbers items leads = λ c p later bound numbered.
    subst (Whole s c p (undecided s.question.offers ∷ [])) (append-nil items)
    (leads c p (record { later = later; bound = bound; numbered = numbered }) [] tt)

-- a node weighs more than what it leaves to be visited
pub lighter : (s : Search) (k : ℕ) (ks : List ℕ) (status : Status) → IsFinal s → k < length s.board.nodes → IsVisited s k status
    → ways_of s.question.offers status ≤ 11
    → weight 12 (length s.board.nodes) (below (ways_of s.question.offers status) status ++ ks) < weight 12 (length s.board.nodes) (k ∷ ks)
lighter s k ks (Split slot first) final low visited few =
    split-lighter 11 (length (options (offer_at s.question.offers slot))) (length s.board.nodes) k first ks few
    (is-split s final k visited.part slot first visited.at).later low
lighter s k ks Open final low visited few = leaf-lighter 12 (length s.board.nodes) k ks (omega arith)
lighter s k ks (Held w) final low visited few = leaf-lighter 12 (length s.board.nodes) k ks (omega arith)
lighter s k ks Costly final low visited few = leaf-lighter 12 (length s.board.nodes) k ks (omega arith)
lighter s k ks (Witnessed j) final low visited few = leaf-lighter 12 (length s.board.nodes) k ks (omega arith)
lighter s k ks (Bounded first count) final low visited few = leaf-lighter 12 (length s.board.nodes) k ks (omega arith)
lighter s k ks Posted final low visited few = leaf-lighter 12 (length s.board.nodes) k ks (omega arith)

-- what it leaves is there
pub still-there : (ways most : ℕ) (ks : List ℕ) (status : Status) → AreBelow ways most status → AllByRecursion (λ k. k < most) ks
    → AllByRecursion (λ k. k < most) (below ways status ++ ks)
still-there ways most ks (Split slot first) low others = run_below most first ways ks low others
still-there ways most ks Open low others = others
still-there ways most ks (Held w) low others = others
still-there ways most ks Costly low others = others
still-there ways most ks (Witnessed j) low others = others
still-there ways most ks (Bounded first count) low others = others
still-there ways most ks Posted low others = others
