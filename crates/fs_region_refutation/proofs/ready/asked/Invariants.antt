use Rattle.std.proofs.Common.{◌≡◌, map, take}
use Rattle.std.specs.Arc.{arc_value}
use Rattle.fs_region_refutation.specs.Runs.{asked_of}
use Rattle.fs_region_refutation.proofs.ready.asked.Given as goal

abbrev pub invariant-loop-run : goal.invariant-loop-run
invariant-loop-run l = l.made.items ≡ map (asked_of (arc_value l.test)) (take l.run-index l.runs)
