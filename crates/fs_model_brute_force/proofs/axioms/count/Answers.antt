use Rattle.fs_model_brute_force.specs.Whole.{pre_execution_of}
use Rattle.fs_model_brute_force.proofs.axioms.count.Goals as goal

pub returns : goal.returns
returns c = c.count.ensures (pre_execution_of c.args.test.now c.args.traces.now) c.requires
