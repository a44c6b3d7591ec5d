-- The tree with all that backs it, and what closing, splitting and posting make of it.
use Rattle.std.specs.Prelude.{◌≡◌, ℕ, Option, Some, option_map, IfSome, List, ◌++◌, map, slice_get, slice_set}
use Rattle.fs_kinds.specs.declared.slot.Slot.{Slot}
use Rattle.fs_model.specs.declared.test.Test.{Test}
use Rattle.fs_model.specs.Execution.{Execution}
use Rattle.fs_board_offers.specs.Parts.{Part}
use Rattle.fs_board_offers.specs.Board.{Board, Node, Status, Open}
use Rattle.fs_cert_evidence.specs.Evidence.{Shown, Refuted, ShowsForbidden, IsWitnessAt}

-- the nodes, the bound with its cycles, the witnesses with their widths, and the greatest number that a node may have
pub record Tree : Type 0 where
  pub nodes : List Node
  pub bound : Option Refuted
  pub witnesses : List Shown
  pub limit : ℕ

-- the board without cycles and widths
abbrev pub board_of : Tree → Board
board_of t = record {
  nodes = t.nodes;
  bound = option_map (λ f. f.placement) t.bound;
  witnesses = map (λ w. w.witness) t.witnesses;
  limit = t.limit;
}

-- each of them is the witness of an execution, with its widths at these slots
abbrev pub AreWitnesses : Test → List Slot → List Shown → Type 0
AreWitnesses t ss shown = (k : ℕ) (w : Shown) → slice_get shown k ≡ Some w → (e : Execution) × IsWitnessAt t ss w e

-- the bound and the witnesses are what they are taken for
pub record IsBacked (t : Test) (ss : List Slot) (best : Option Refuted) (shown : List Shown) : Type 0 where
  pub bound : IfSome best (ShowsForbidden t)
  pub witnesses : AreWitnesses t ss shown

abbrev pub open_node : Part → Node
open_node part = record { part = part; status = Open }

abbrev pub marked : Status → ℕ → Part → Tree → Tree
marked status k part t = record t { nodes = slice_set t.nodes k (record { part = part; status = status }) }

abbrev pub grown : Tree → List Node → Tree
grown t children = record t { nodes = t.nodes ++ children }

abbrev pub with_bound : Option Refuted → Tree → Tree
with_bound bound t = record t { bound = bound }

abbrev pub with_more : List Shown → Tree → Tree
with_more witnesses t = record t { witnesses = t.witnesses ++ witnesses }
