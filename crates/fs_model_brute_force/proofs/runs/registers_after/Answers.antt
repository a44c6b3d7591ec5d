use Rattle.std.proofs.Common.{length, ap, sym}
use Rattle.fs_model_brute_force.proofs.Growing.{below_same, nearer}
use Rattle.fs_model_brute_force.proofs.runs.registers_after.Goals as goal

pub registers_of-requires-clause-hart : goal.registers_of-requires-clause-hart
registers_of-requires-clause-hart c =
    below_same c.args.hart (length c.args.test.now.codes) (length c.args.test.now.starts) c.requires.hart (sym c.requires.test.starts)

pub loop-step-smaller : goal.loop-step-smaller
loop-step-smaller c = nearer (length c.args.steps.now) c.loop-step.step-index c.loop-step-test.true
