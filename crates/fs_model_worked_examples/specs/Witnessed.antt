-- Boards that a witness ends or doesn't.
use Rattle.std.specs.Prelude.{None, Some, List, [], ◌∷◌}
use Rattle.fs_kinds.specs.declared.kind.Kind.TheVariants.{WR}
use Rattle.fs_board_offers.specs.Board.{Take, CutWitness, Post, Peek, Given, Idle, Done, NotYours, Closed, NotCovered, Other, Seen}
use Rattle.fs_board_offers.specs.Histories.{LogEntry}
use Rattle.fs_model_worked_examples.specs.StoreBuffering.{fences}
use Rattle.fs_model_worked_examples.specs.Rows.{entry, part, loads_first}
use Rattle.fs_model_worked_examples.specs.MessagePassing.{passes, passing_part}

-- Worker 0 closes the root with a witness, and worker 1, which couldn't, sees the witness and is done.
abbrev pub closed_root : List LogEntry
closed_root =
    entry 0 (Peek 0) (Seen None 0 [])
    ∷ entry 0 Take (Given 0 (passing_part None None))
    ∷ entry 1 (CutWitness 0 passes) NotYours
    ∷ entry 0 (CutWitness 0 passes) Closed
    ∷ entry 1 (Peek 0) (Seen None 1 (passes ∷ []))
    ∷ entry 1 Take Done
    ∷ []

-- Nothing closes the root here: the witness doesn't bear rw,rw before each load, and w,r twice isn't the root's floor.
-- Meanwhile another worker finds nothing to do.
abbrev pub held_root : List LogEntry
held_root =
    entry 0 Take (Given 0 (part None None))
    ∷ entry 1 Take Idle
    ∷ entry 0 (CutWitness 0 loads_first) NotCovered
    ∷ entry 0 (Post 0 (fences (Some WR) (Some WR))) Other
    ∷ []
