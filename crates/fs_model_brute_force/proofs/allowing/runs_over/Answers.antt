use Rattle.std.proofs.Common.{length, ap, arith, ℕ, List, []}
use Rattle.fs_model_brute_force.specs.Allowing.{IsListingFault}
use Rattle.fs_model_brute_force.proofs.Listed.{first_fault, handed}
use Rattle.fs_hart.specs.declared.trace.Trace.{Trace}
use Rattle.fs_hart.specs.Listing.{AreTraces}
use Rattle.fs_model_brute_force.proofs.Growing.{hart_fits, below_same, nearer, longer, more}
use Rattle.fs_model_brute_force.proofs.allowing.runs_over.Goals as goal

pub returns-in_err-traces-clause-err : goal.returns-in_err-traces-clause-err
returns-in_err-traces-clause-err c =
    let fault = c.in_err-traces.field-0.0 in
    handed c.from_residual.result fault (IsListingFault c.args.test.now c.args.sets.now) c.from_residual.ensures.1
    (first_fault c.args.test.now c.args.sets.now c.loop-hart.lists.items c.loop-hart.hart fault
    c.loop-hart.invariant.0 c.loop-hart.invariant.1
    (omega (arith, c.loop-hart-test.true, ap length c.as_slice-hart-end.ensures)) c.in_err-traces.ensures.err)

pub overflow_cast-hart : goal.overflow_cast-hart
overflow_cast-hart c = hart_fits c.loop-hart.hart _ (length c.args.test.now.codes) c.loop-hart-test.true (ap length c.as_slice-hart-end.ensures) c.requires.test.harts

pub traces_over-requires-clause-hart : goal.traces_over-requires-clause-hart
traces_over-requires-clause-hart c = below_same c.loop-hart.hart _ (length c.args.test.now.codes) c.loop-hart-test.true (ap length c.as_slice-hart-end.ensures)

pub loop-hart-smaller : goal.loop-hart-smaller
loop-hart-smaller c = nearer (length c.as_slice-hart-end.result.now) c.loop-hart.hart c.loop-hart-test.true

pub loop-hart-preserved : goal.loop-hart-preserved
loop-hart-preserved c =
    let xs = c.loop-hart.lists.items in
    let hart = c.loop-hart.hart in
    let x : List Trace = c.in_ok-traces.traces.items in (
      longer xs c.push.new.self.items x hart c.loop-hart.invariant.0 c.in_ok-push.ensures.items,
      more (λ (k : ℕ) (traces : List Trace). AreTraces c.args.test.now k c.args.sets.now traces) [] x xs c.push.new.self.items hart
          c.loop-hart.invariant.0 c.in_ok-push.ensures.items c.loop-hart.invariant.1 c.in_ok-traces.ensures.ok,
    )
