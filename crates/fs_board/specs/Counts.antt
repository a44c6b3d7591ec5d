-- How the board keeps count of its open and its held nodes.
use Rattle.std.specs.Prelude.{◌≡◌, ℕ, ◌+◌, ◌<◌, ◌≤◌, Bool, false, if◌then◌else◌, Some, List, [], ◌∷◌, length, slice_get}
use Rattle.fs_board_offers.specs.Board.{Node, Status, is_open, is_held}

-- how many nodes have such a status
abbrev pub count_of : (Status → Bool) → List Node → ℕ
count_of test [] = 0
count_of test (node ∷ nodes) = (if test node.status then 1 else 0) + count_of test nodes

-- so many nodes are open and so many held, and no node below `next` is open
pub record IsCounted (nodes : List Node) (next free held : ℕ) : Type 0 where
  pub within : next ≤ length nodes
  pub passed : (k : ℕ) (node : Node) → k < next → slice_get nodes k ≡ Some node → is_open node.status ≡ false
  pub opened : free ≡ count_of is_open nodes
  pub kept : held ≡ count_of is_held nodes
