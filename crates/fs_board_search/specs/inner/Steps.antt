-- What one step of a search does to its board: it tries to close a node, or it is done with one.
use Rattle.std.specs.Prelude.{◌≡◌, ℕ, ◌<◌, ◌≤◌, Bool, true, false, ◌&&◌, not}
use Rattle.fs_board_offers.specs.Offers.{slots}
use Rattle.fs_board_offers.specs.Parts.{Part, slots_in_part}
use Rattle.fs_board_offers.specs.Board.{Board, Status, Reply, Closed, Given, Children, is_open, is_held}
use Rattle.fs_board_offers.specs.Histories.{HoldsNode}
use Rattle.fs_board.specs.Counts.{count_of}
use Rattle.fs_board.specs.View.{Search}
use Rattle.fs_board_search.specs.Histories.{GoesOn}

-- the node is closed or split
abbrev pub is_done : Status → Bool
is_done status = not (is_open status) && not (is_held status)

abbrev pub done : Board → ℕ
done b = count_of is_done b.nodes

abbrev pub is_given : Reply → Bool
is_given (Given k part) = true
is_given _ = false

-- the node is closed or split by that
abbrev pub is_end : Reply → Bool
is_end Closed = true
is_end (Children first count) = true
is_end _ = false

-- one node more is done, or several
pub record MovesOn (old new : Search) : Type 0 where
  pub goes : GoesOn old new
  pub more : done old.board < done new.board

-- the board is what it was
pub record Stays (old new : Search) : Type 0 where
  pub goes : GoesOn old new
  pub board : new.board ≡ old.board

-- the node is closed or split now, or nothing changed
abbrev pub IsTried : Search → Search → (ended : Bool) → Type 0
IsTried old new true = MovesOn old new
IsTried old new false = Stays old new

-- worker 0 holds the node, whose part has the offers' slots, and fewer nodes are done than there may be
pub record IsTaken (s : Search) (k : ℕ) (part : Part) : Type 0 where
  pub holds : HoldsNode s.board 0 k part
  pub slots : slots_in_part part ≡ slots s.question.offers
  pub room : done s.board ≤ s.board.limit
