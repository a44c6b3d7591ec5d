use Rattle.std.proofs.Common.{◌-◌, length}
use Rattle.fs_hart.specs.inner.Walking.{Leads}
use Rattle.fs_hart.proofs.walk.Walk.go_on.Given as goal

abbrev pub invariant-loop-instr : goal.invariant-loop-instr
invariant-loop-instr l = Leads l.locations l.code l.fn.state l.fn.self l.state l.self

abbrev pub decreases-loop-instr : goal.decreases-loop-instr
decreases-loop-instr l = length l.code - l.state.at
