use Rattle.std.proofs.Common.{◌≡◌, length}
use Rattle.std.specs.Arc.{arc_value}
use Rattle.fs_region_refutation.proofs.Listed.{AreReadyBelow}
use Rattle.fs_region_refutation.proofs.ready.all_ready.Given as goal

abbrev pub invariant-loop-hart : goal.invariant-loop-hart
invariant-loop-hart l = (length l.runs.items ≡ l.hart) × AreReadyBelow (arc_value l.test) l.lists l.hart l.runs.items
