use Rattle.std.proofs.Common.{◌-◌, length}
use Rattle.fs_model.specs.Execution.{registers_of}
use Rattle.fs_hart.proofs.Along.{Along}
use Rattle.fs_hart.proofs.run.trace_of.Given as goal

abbrev pub invariant-loop-code : goal.invariant-loop-code
invariant-loop-code l = Along l.locations l.code (registers_of l.test l.hart) l.choices l.used l.state l.steps.items

abbrev pub decreases-loop-code : goal.decreases-loop-code
decreases-loop-code l = length l.code - l.state.at
