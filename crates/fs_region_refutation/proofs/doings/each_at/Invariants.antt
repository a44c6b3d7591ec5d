use Rattle.std.proofs.Common.{◌≡◌, map, take}
use Rattle.fs_region_refutation.specs.Beside.{doing_of}
use Rattle.fs_region_refutation.proofs.doings.each_at.Given as goal

abbrev pub invariant-loop-trace : goal.invariant-loop-trace
invariant-loop-trace l = l.column.items ≡ map (λ trace. doing_of trace.steps l.at) (take l.trace-index l.traces)
