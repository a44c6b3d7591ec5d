use Rattle.std.proofs.Common.{refl}
use Rattle.fs_model_brute_force.specs.Whole.{pre_execution_of}
use Rattle.fs_model_brute_force.proofs.axioms.keeps_atomicity.Goals as goal

pub returns : goal.returns
returns c = c.keeps_atomicity.ensures (pre_execution_of c.args.test.now c.args.traces.now) c.requires refl
