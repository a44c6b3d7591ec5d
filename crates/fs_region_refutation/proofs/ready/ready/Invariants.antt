use Rattle.std.proofs.Common.{◌≡◌, map, take}
use Rattle.std.specs.Arc.{arc_value}
use Rattle.fs_region_refutation.specs.Runs.{lone_of}
use Rattle.fs_region_refutation.proofs.ready.ready.Given as goal

abbrev pub invariant-loop-number : goal.invariant-loop-number
invariant-loop-number l = l.runs.items ≡ map (lone_of (arc_value l.test) l.hart) (take l.number l.traces)
