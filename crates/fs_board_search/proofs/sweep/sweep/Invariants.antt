use Rattle.std.proofs.Common.{◌≡◌, ◌+◌, ◌-◌}
use Rattle.fs_board_search.specs.Histories.{GoesOn}
use Rattle.fs_board_search.specs.inner.Steps.{done}
use Rattle.fs_board_search.proofs.sweep.sweep.Given as goal

abbrev pub invariant-loop-alloc : goal.invariant-loop-alloc
invariant-loop-alloc g l = record { scout : l.scout ≡ l.initial.scout; goes : GoesOn l.initial.board l.board }

abbrev pub decreases-loop-alloc : goal.decreases-loop-alloc
decreases-loop-alloc g l = (l.board.board.limit + 1) - done l.board.board
