-- Boards of store buffering that a limit stops.
use Rattle.std.specs.Prelude.{ℕ, None, Some, List, [], ◌∷◌}
use Rattle.fs_kinds.specs.declared.kind.Kind.TheVariants.{WR}
use Rattle.fs_model.specs.Slots.{slot_at}
use Rattle.fs_board_offers.specs.Parts.{child_parts}
use Rattle.fs_board_offers.specs.Board.{Board, Take, Claim, SplitAt, Split, Given, Children, NotYours, Decided, Full, with_status, with_open, opening}
use Rattle.fs_board_offers.specs.Histories.{LogEntry}
use Rattle.fs_model_worked_examples.specs.Rows.{offers, part, entry}

-- The root is split before hart 0's load. Then node 4 can't be split by one who doesn't hold it, nor where it is
-- decided, and before hart 1's load the board is full.
abbrev pub until_full : List LogEntry
until_full =
    entry 0 Take (Given 0 (part None None))
    ∷ entry 0 (SplitAt 0 (slot_at 0 2)) (Children 1 7)
    ∷ entry 0 (SplitAt 4 (slot_at 1 2)) NotYours
    ∷ entry 1 (Claim 4) (Given 4 (part (Some (Some WR)) None))
    ∷ entry 0 (SplitAt 4 (slot_at 1 2)) NotYours
    ∷ entry 1 (SplitAt 4 (slot_at 0 2)) Decided
    ∷ entry 1 (SplitAt 4 (slot_at 1 2)) Full
    ∷ entry 0 (SplitAt 8 (slot_at 1 2)) NotYours
    ∷ []

-- the root and its seven children
abbrev pub split_once : (limit : ℕ) → Board
split_once limit =
    with_open (child_parts offers (slot_at 0 2) (part None None)) (with_status (Split (slot_at 0 2) 1) 0 (part None None) (opening offers limit))
