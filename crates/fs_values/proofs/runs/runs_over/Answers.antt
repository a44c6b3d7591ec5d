use Rattle.std.proofs.Common.{length, ap, arith}
use Rattle.fs_values.proofs.Listed.{no_fault_but_memory, hart_fits, below_same, nearer}
use Rattle.fs_values.proofs.runs.runs_over.Goals as goal

pub returns-in_err-traces-clause-err : goal.returns-in_err-traces-clause-err
returns-in_err-traces-clause-err c =
    no_fault_but_memory c.args.test.now c.args.sets.now c.loop-hart.hart c.in_err-traces.field-0.0 c.from_residual.result c.from_residual.ensures.1
    c.requires.clean (omega (arith, c.loop-hart-test.true, ap length c.as_slice-hart-end.ensures)) c.in_err-traces.ensures.err

pub overflow_cast-hart : goal.overflow_cast-hart
overflow_cast-hart c = hart_fits c.loop-hart.hart _ (length c.args.test.now.codes) c.loop-hart-test.true (ap length c.as_slice-hart-end.ensures) c.requires.test.harts

pub traces_over-requires-clause-hart : goal.traces_over-requires-clause-hart
traces_over-requires-clause-hart c = below_same c.loop-hart.hart _ (length c.args.test.now.codes) c.loop-hart-test.true (ap length c.as_slice-hart-end.ensures)

pub loop-hart-smaller : goal.loop-hart-smaller
loop-hart-smaller c = nearer (length c.as_slice-hart-end.result.now) c.loop-hart.hart c.loop-hart-test.true
