use Rattle.std.proofs.Common.{length, ap, ◌∙◌}
use Rattle.fs_model_brute_force.proofs.Growing.{hart_fits, below_same, nearer}
use Rattle.fs_model_brute_force.proofs.executions.whole_runs.Goals as goal

pub overflow_cast-hart : goal.overflow_cast-hart
overflow_cast-hart c =
    hart_fits c.loop-hart.hart (length c.args.runs.now) (length c.args.test.now.codes) c.loop-hart-test.true
    (c.if-runs-as_slice.false ∙ ap length c.as_slice.ensures) c.requires.test.harts

pub whole_run-requires-clause-hart : goal.whole_run-requires-clause-hart
whole_run-requires-clause-hart c =
    below_same c.loop-hart.hart (length c.args.runs.now) (length c.args.test.now.codes) c.loop-hart-test.true
    (c.if-runs-as_slice.false ∙ ap length c.as_slice.ensures)

pub loop-hart-smaller : goal.loop-hart-smaller
loop-hart-smaller c = nearer (length c.args.runs.now) c.loop-hart.hart c.loop-hart-test.true
