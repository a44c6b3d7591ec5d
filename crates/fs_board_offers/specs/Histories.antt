-- The steps of the search board, and what makes a legal history of it.
use Rattle.std.specs.Prelude.{◌≡◌, ◌≢◌, ℕ, true, false, None, Some, List, [], ◌∷◌, ◌++◌, All, map, length, drop}
use Rattle.std.specs.List.{AllZip}
use Rattle.fs_model.specs.declared.test.Test.{Test}
use Rattle.fs_model.specs.Execution.{Execution}
use Rattle.fs_model.specs.Witness.{Witness}
use Rattle.fs_model.specs.Allows.{Allows}
use Rattle.fs_cert_evidence.specs.Shown.{ShowsAs, IsShownBy}
use Rattle.fs_cert_evidence.specs.Widths.{width}
use Rattle.fs_board_offers.specs.Offers.{Offers, options, offer_at}
use Rattle.fs_board_offers.specs.Parts.{Part, is_undecided, floor, filled, child_parts}
use Rattle.fs_board_offers.specs.Pruning.{is_pruned}
use Rattle.fs_board_offers.specs.Board.{Board, Status, Event, Reply, Held, Split, Costly, Witnessed, Bounded, Posted, Take, Claim, Adopt, SplitAt, CutCost, CutWitness, CutBound, Post, Peek, Given, Idle, Done, Gone, Children, NotYours, Decided, Full, Closed, Cheaper, NotCovered, Other, Seen, is_open, is_held, is_held_by, has_node, part_at, with_status, with_open, better_of, is_full, opening}

-- an entry of a board's log
pub record LogEntry : Type 0 where
  pub worker : ℕ
  pub event : Event
  pub reply : Reply

-- the worker holds the node, which is this part
abbrev pub HoldsNode : Board → (worker node : ℕ) → Part → Type 0
HoldsNode b w k part = part_at (is_held_by w) b k ≡ Some part

-- the worker doesn't hold the node
abbrev pub LacksNode : Board → (worker node : ℕ) → Type 0
LacksNode b w k = part_at (is_held_by w) b k ≡ None

-- the node closed so, and these witnesses last in the board's list
abbrev pub with_witnesses : Status → ℕ → Part → List Witness → Board → Board
with_witnesses status k part witnesses old = record (with_status status k part old) { witnesses = old.witnesses ++ witnesses }

module _ (t : Test) (offers : Offers) where
  -- a worker's event, its reply, and the board after it; of several refusals the reply is the first in this order
  abbrev pub Steps : Board → (worker : ℕ) → Event → Reply → Board → Type 0
  -- any open node
  Steps old w Take (Given k part) new = (part_at is_open old k ≡ Some part) × (new ≡ with_status (Held w) k part old)
  Steps old w Take Idle new = (has_node is_open old ≡ false) × (has_node is_held old ≡ true) × (new ≡ old)
  Steps old w Take Done new = (has_node is_open old ≡ false) × (has_node is_held old ≡ false) × (new ≡ old)
  -- this open node
  Steps old w (Claim j) (Given k part) new =
      (k ≡ j) × (part_at is_open old k ≡ Some part) × (new ≡ with_status (Held w) k part old)
  Steps old w (Claim j) Gone new = (part_at is_open old j ≡ None) × (new ≡ old)
  -- this node, which anybody holds
  Steps old w (Adopt j) (Given k part) new =
      (k ≡ j) × (part_at is_held old k ≡ Some part) × (new ≡ with_status (Held w) k part old)
  Steps old w (Adopt j) Gone new = (part_at is_held old j ≡ None) × (new ≡ old)
  -- open children, one for each way to decide the slot
  Steps old w (SplitAt k slot) NotYours new = LacksNode old w k × (new ≡ old)
  Steps old w (SplitAt k slot) Decided new = (part : Part) × HoldsNode old w k part × (is_undecided slot part ≡ false) × (new ≡ old)
  Steps old w (SplitAt k slot) Full new =
      (part : Part) × HoldsNode old w k part × (is_undecided slot part ≡ true) × (is_full offers slot old ≡ true) × (new ≡ old)
  Steps old w (SplitAt k slot) (Children first count) new =
      (part : Part) × HoldsNode old w k part × (is_undecided slot part ≡ true) × (is_full offers slot old ≡ false)
      × (first ≡ length old.nodes) × (count ≡ length (options (offer_at offers slot)))
      × (new ≡ with_open (child_parts offers slot part) (with_status (Split slot (length old.nodes)) k part old))
  -- even the least placement under the node is no better than the bound
  Steps old w (CutCost k) NotYours new = LacksNode old w k × (new ≡ old)
  Steps old w (CutCost k) Cheaper new =
      (part : Part) × HoldsNode old w k part × (is_pruned offers old.bound part [] ≡ false) × (new ≡ old)
  Steps old w (CutCost k) Closed new =
      (part : Part) × HoldsNode old w k part × (is_pruned offers old.bound part [] ≡ true) × (new ≡ with_status Costly k part old)
  -- Each placement under the node allows the outcome: the witness shows it with rw,rw at each undecided slot.
  Steps old w (CutWitness k witness) NotYours new = LacksNode old w k × (new ≡ old)
  Steps old w (CutWitness k witness) NotCovered new =
      (part : Part) × HoldsNode old w k part × (IsShownBy t (filled part) witness → ⊥) × (new ≡ old)
  Steps old w (CutWitness k witness) Closed new =
      (part : Part) × HoldsNode old w k part × IsShownBy t (filled part) witness
      × (new ≡ with_witnesses (Witnessed (length old.witnesses)) k part (witness ∷ []) old)
  -- Each placement under the node that forbids the outcome is no better than the bound: the witnesses show the outcome
  -- under the node's least placement, and what breaks them all is no better.
  Steps old w (CutBound k witnesses) NotYours new = LacksNode old w k × (new ≡ old)
  Steps old w (CutBound k witnesses) NotCovered new =
      (part : Part) × HoldsNode old w k part × (All (IsShownBy t (floor part)) witnesses → ⊥) × (new ≡ old)
  Steps old w (CutBound k witnesses) Cheaper new =
      (part : Part) × HoldsNode old w k part
      × ((es : List Execution) × AllZip (ShowsAs t (floor part)) witnesses es × (is_pruned offers old.bound part (map (width t) es) ≡ false))
      × (new ≡ old)
  Steps old w (CutBound k witnesses) Closed new =
      (part : Part) × HoldsNode old w k part
      × ((es : List Execution) × AllZip (ShowsAs t (floor part)) witnesses es × (is_pruned offers old.bound part (map (width t) es) ≡ true))
      × (new ≡ with_witnesses (Bounded (length old.witnesses) (length witnesses)) k part witnesses old)
  -- The node's least placement forbids the outcome. A post of it while it allows the outcome has no reply: callers may
  -- not do so.
  Steps old w (Post k p) NotYours new = LacksNode old w k × (new ≡ old)
  Steps old w (Post k p) Other new = (part : Part) × HoldsNode old w k part × (p ≢ floor part) × (new ≡ old)
  Steps old w (Post k p) Closed new =
      (part : Part) × HoldsNode old w k part × (p ≡ floor part) × (Allows t p → ⊥)
      × (new ≡ record (with_status Posted k part old) { bound = better_of offers old.bound p })
  Steps old w (Peek from) (Seen bound upto witnesses) new =
      (bound ≡ old.bound) × (upto ≡ length old.witnesses) × (witnesses ≡ drop from old.witnesses) × (new ≡ old)
  -- no event has another reply
  Steps old w event reply new = ⊥

  -- the entries are steps, one after the other, from the first board to the last
  abbrev pub Lead : Board → List LogEntry → Board → Type 0
  Lead old [] new = new ≡ old
  Lead old (entry ∷ entries) new = (next : Board) × Steps old entry.worker entry.event entry.reply next × Lead next entries new

  -- A legal history, and the board that it leads to. A finished board has an answer, by a law of fs_board_offers, where
  -- rw,rw is offered at each slot: else each placement of offered kinds may allow the outcome, while rw,rw in every slot
  -- forbids it. Where a finished board has no bound, its leaf over rw,rw everywhere is witnessed, or bounded by a list
  -- with a witness that no offered kind breaks at a slot that the leaf leaves undecided.
  abbrev pub IsHistory : (limit : ℕ) → List LogEntry → Board → Type 0
  IsHistory limit entries board = Lead (opening offers limit) entries board
