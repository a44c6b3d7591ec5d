-- The search board: a tree of partial placements, which workers take, split and close. Each event of a worker is one
-- step.
use Rattle.std.specs.Prelude.{ℕ, ◌+◌, ◌==◌, nat_lt, Bool, true, false, ◌&&◌, not, Option, None, Some, option_and_then, if◌then◌else◌, List, [], ◌∷◌, ◌++◌, map, length, slice_get, slice_set}
use Rattle.std.specs.List.{list_any}
use Rattle.fs_kinds.specs.declared.placement.Entry.{Entry}
use Rattle.fs_kinds.specs.declared.slot.Slot.{Slot}
use Rattle.fs_model.specs.Witness.{Witness}
use Rattle.fs_board_offers.specs.Offers.{Offers, is_better, options, offer_at}
use Rattle.fs_board_offers.specs.Parts.{Part, undecided}

-- What became of a node. It was split at a slot, and its children are the nodes from this number on; it is pruned by
-- cost alone, by one witness, or by a list of them, which may be empty; or it was posted. Witnesses go by their numbers
-- in the board's list; a list has those from the first on, so many.
pub data Status : Type 0 where
  Open : Status
  Held : (worker : ℕ) → Status
  Split : (slot : Slot) (first : ℕ) → Status
  Costly : Status
  Witnessed : (witness : ℕ) → Status
  Bounded : (first count : ℕ) → Status
  Posted : Status

pub record Node : Type 0 where
  pub part : Part
  pub status : Status

-- the nodes by their numbers; the best placement posted, which the field calls the incumbent; what pruned nodes; the
-- greatest number that a node may have
pub record Board : Type 0 where
  pub nodes : List Node
  pub bound : Option (List Entry)
  pub witnesses : List Witness
  pub limit : ℕ

pub data Event : Type 0 where
  Take : Event
  Claim : (node : ℕ) → Event
  Adopt : (node : ℕ) → Event
  SplitAt : (node : ℕ) (slot : Slot) → Event
  CutCost : (node : ℕ) → Event
  CutWitness : (node : ℕ) (witness : Witness) → Event
  CutBound : (node : ℕ) (witnesses : List Witness) → Event
  Post : (node : ℕ) (placement : List Entry) → Event
  Peek : (from : ℕ) → Event

pub data Reply : Type 0 where
  Given : (node : ℕ) (part : Part) → Reply
  Idle : Reply
  Done : Reply
  Gone : Reply
  Children : (first count : ℕ) → Reply
  NotYours : Reply
  Decided : Reply
  Full : Reply
  Closed : Reply
  Cheaper : Reply
  NotCovered : Reply
  Other : Reply
  Seen : (bound : Option (List Entry)) (upto : ℕ) (witnesses : List Witness) → Reply

abbrev pub is_open : Status → Bool
is_open Open = true
is_open _ = false

abbrev pub is_held : Status → Bool
is_held (Held worker) = true
is_held _ = false

abbrev pub is_held_by : ℕ → Status → Bool
is_held_by worker (Held other) = worker == other
is_held_by worker _ = false

-- some node has such a status
abbrev pub has_node : (Status → Bool) → Board → Bool
has_node test b = list_any (λ node. test node.status) b.nodes

-- the partial placement of the node of this number, where there is one of such a status
abbrev pub part_at : (Status → Bool) → Board → ℕ → Option Part
part_at test b k = option_and_then (λ node. if test node.status then Some node.part else None) (slice_get b.nodes k)

abbrev pub with_status : Status → ℕ → Part → Board → Board
with_status status k part b = record b { nodes = slice_set b.nodes k (record { part = part; status = status }) }

abbrev pub with_open : List Part → Board → Board
with_open parts b = record b { nodes = b.nodes ++ map (λ part. record { part = part; status = Open }) parts }

-- the better one of the bound and a posted placement
abbrev pub better_of : Offers → Option (List Entry) → List Entry → Option (List Entry)
better_of offers None p = Some p
better_of offers (Some q) p = if is_better offers p q then Some p else Some q

-- the last child's number passes the limit
abbrev pub is_full : Offers → Slot → Board → Bool
is_full offers slot b = nat_lt (b.limit + 1) (length b.nodes + length (options (offer_at offers slot)))

-- the board at first: the root is open and wholly undecided
abbrev pub opening : Offers → (limit : ℕ) → Board
opening offers limit = record {
  nodes = record { part = undecided offers; status = Open } ∷ [];
  bound = None;
  witnesses = [];
  limit = limit;
}

-- no node is open or held
abbrev pub is_finished : Board → Bool
is_finished b = not (has_node is_open b) && not (has_node is_held b)
