use Rattle.std.proofs.Common.{◌≡◌}
use Rattle.fs_kinds.specs.Placement.{slots_of}
use Rattle.fs_board_search.proofs.plan.put_all.Given as goal

abbrev pub invariant-loop-entry : goal.invariant-loop-entry
invariant-loop-entry l = slots_of l.placement ≡ slots_of l.initial.placement
