use Rattle.std.proofs.Common.{length, sym, ◌∙◌, ap, subst, arith}
use Rattle.std.proofs.lemmas.List.{get_or_default}
use Rattle.fs_check.specs.inner.WitnessRuns.{AreWholeRuns}
use Rattle.fs_check.proofs.FirstStops.{more_at, stopped_at}
use Rattle.fs_check.proofs.runs.make_runs.Goals as goal

pub returns-in-Err-clause-ok : goal.returns-in-Err-clause-ok
returns-in-Err-clause-ok c =
    stopped_at c.args.test.now c.args.choices.now c.loop-hart.traces.items c.loop-hart.hart _ c.in_ok-trace_of.field-0 c.in-Err.reason
    c.loop-hart.invariant.0 c.loop-hart.invariant.1 (omega (arith, c.loop-hart-test.true, c.requires.lists)) (get_or_default c.args.choices.now c.loop-hart.hart _ _ c.loop-hart-test.true ∙ sym c.index-choices-hart.is ∙ sym c.as_slice.ensures) c.in_ok-trace_of.ensures.ok c.in-Err.ensures.err

pub loop-hart-preserved : goal.loop-hart-preserved
loop-hart-preserved c =
    more_at c.args.test.now c.args.choices.now c.loop-hart.traces.items _ c.in-Ok.trace c.loop-hart.hart _ c.in_ok-trace_of.field-0
    c.loop-hart.invariant.0 c.loop-hart.invariant.1 (get_or_default c.args.choices.now c.loop-hart.hart _ _ c.loop-hart-test.true ∙ sym c.index-choices-hart.is ∙ sym c.as_slice.ensures) c.in_ok-trace_of.ensures.ok c.in-Ok.ensures.ok c.in_ok-push-in-Ok.ensures.items

pub returns-clause-ok : goal.returns-clause-ok
returns-clause-ok c = (
  ap length c.new.ensures ∙ c.loop-hart.invariant.0 ∙ omega (arith, c.loop-hart-test.false, c.loop-hart.auto.hart-end, c.requires.lists),
  subst (AreWholeRuns c.args.test.now c.args.choices.now) (sym c.new.ensures) c.loop-hart.invariant.1,
)
