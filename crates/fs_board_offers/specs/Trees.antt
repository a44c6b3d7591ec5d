-- What the laws of the search tree speak of: the leaves of a board's tree, its parts, how much a node may still grow,
-- and what is done with.
use Rattle.std.specs.Prelude.{◌≡◌, ℕ, ◌+◌, ◌<◌, ◌==◌, Bool, true, false, not, ◌&&◌, Some, is_none, if◌then◌else◌, List, slice_get}
use Rattle.std.specs.List.{count_by}
use Rattle.fs_kinds.specs.declared.placement.Entry.{Entry}
use Rattle.fs_kinds.specs.declared.slot.Slot.{Slot}
use Rattle.fs_board_offers.specs.Offers.{Offers, slots, are_offered}
use Rattle.fs_board_offers.specs.Parts.{Part, floor, is_under, is_undecided, child_parts, slots_in_part}
use Rattle.fs_board_offers.specs.Board.{Board, Node, Status, Open, Held, Split, Event, Reply, SplitAt, CutCost, CutWitness, CutBound, Post, Children, Closed}
use Rattle.fs_board_offers.specs.Sizes.{tree_size}

-- ---- nodes

abbrev pub is_split : Status → Bool
is_split (Split slot first) = true
is_split _ = false

-- the node is done with: it was split, or closed by cost, by witnesses or by a post
abbrev pub is_ended : Status → Bool
is_ended Open = false
is_ended (Held worker) = false
is_ended _ = true

-- the event splits or closes the node of this number, as its reply says
abbrev pub ends_node : ℕ → Event → Reply → Bool
ends_node k (SplitAt j slot) (Children first count) = k == j
ends_node k (CutCost j) Closed = k == j
ends_node k (CutWitness j witness) Closed = k == j
ends_node k (CutBound j witnesses) Closed = k == j
ends_node k (Post j p) Closed = k == j
ends_node k event reply = false

-- the board's node of this number
abbrev pub IsNode : Board → ℕ → Node → Type 0
IsNode b k node = slice_get b.nodes k ≡ Some node

-- a part of the offers: it has their slots in order, and what is decided is offered there
pub record IsPart (offers : Offers) (part : Part) : Type 0 where
  pub slots : slots_in_part part ≡ slots offers
  pub offered : are_offered offers (floor part) ≡ true

-- the placement lies under the node, which isn't split
abbrev pub is_leaf_over : List Entry → Node → Bool
is_leaf_over p node = not (is_split node.status) && is_under node.part p

-- exactly one node that isn't split has the placement under it, the one of this number
pub record HasOneLeaf (b : Board) (p : List Entry) : Type 0 where
  pub number : ℕ
  pub node : Node
  pub at : IsNode b number node
  pub leaf : is_leaf_over p node ≡ true
  pub only : (k : ℕ) (other : Node) → IsNode b k other → is_leaf_over p other ≡ true → k ≡ number

-- ---- sizes

-- how many slots of the part are undecided
abbrev pub free_slots : Part → ℕ
free_slots = count_by (λ d. is_none d.decided)

-- The most nodes that there may be below this one. Those below a node that is split are counted with its children.
abbrev pub room : Offers → Node → ℕ
room offers node = if is_split node.status then 0 else tree_size offers (free_slots node.part)

-- ---- split nodes

-- Node k of these, of this part, was split at the slot: it was undecided, and the children stand behind one another
-- from this number on, each with the slot decided in its way. They come after the node.
pub record IsSplitAt (offers : Offers) (nodes : List Node) (k : ℕ) (part : Part) (slot : Slot) (first : ℕ) : Type 0 where
  pub free : is_undecided slot part ≡ true
  pub later : k < first
  pub children : (i : ℕ) (child : Part) → slice_get (child_parts offers slot part) i ≡ Some child
      → (status : Status) × (slice_get nodes (first + i) ≡ Some (record { part = child; status = status }))
