use Rattle.std.proofs.Common.{◌≡◌}
use Rattle.fs_board_search.specs.inner.Steps.{Stays}
use Rattle.fs_board_search.proofs.sweep.finish_node.Given as goal

abbrev pub invariant-loop-way : goal.invariant-loop-way
invariant-loop-way l = record { scout : l.scout ≡ l.initial.scout; stays : Stays l.initial.board l.board }
