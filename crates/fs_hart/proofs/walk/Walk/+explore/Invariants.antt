use Rattle.std.proofs.Common.{◌-◌, length, take}
use Rattle.fs_model.specs.Execution.{code_of}
use Rattle.fs_hart.specs.inner.Walking.{options_of}
use Rattle.fs_hart.proofs.Adding.{Tries}
use Rattle.fs_hart.proofs.walk.Walk.+explore.Given as goal

abbrev pub decreases-explore : goal.decreases-explore
decreases-explore l = length (code_of l.test.now l.hart) - l.state.now.at

abbrev pub invariant-loop-number : goal.invariant-loop-number
invariant-loop-number l = Tries l.test l.hart l.sets l.state (take l.number (options_of l.words l.instr)) l.fn.self l.self
