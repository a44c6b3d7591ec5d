use Rattle.std.proofs.Common.{◌+◌, List, sym, subst, arith}
use Rattle.fs_deps.specs.declared.deps.Masks.{Masks}
use Rattle.fs_cand.proofs.Growing.{AreDepsBelow, deps_more}
use Rattle.fs_cand.proofs.lists.Dependencies.of.Goals as goal

pub loop-trace-preserved : goal.loop-trace-preserved
loop-trace-preserved c =
    subst (λ (ds : List (List Masks)). AreDepsBelow c.args.traces.now ds (c.loop-trace.trace-index + 1)) (sym c.in_ok-push.ensures.items)
    (deps_more c.args.traces.now c.loop-trace.deps.items c.loop-trace.trace-index c.trace-item.result c.in_ok-of.field-0
    c.loop-trace.invariant (omega (arith, c.loop-trace-test.true)) c.trace-item.is c.in_ok-of.ensures.ok)
