use Rattle.std.proofs.Common.{◌∙◌, ap}
use Rattle.fs_hart.specs.Steps.{steps_in}
use Rattle.fs_region_refutation.proofs.Others.{idle_more}
use Rattle.fs_region_refutation.proofs.idle.idle_traces.Goals as goal

pub loop-hart-preserved : goal.loop-hart-preserved
loop-hart-preserved c =
    ap steps_in c.in_ok-push.ensures.items ∙ idle_more c.loop-hart.traces.items c.idle.result c.loop-hart.hart c.idle.ensures c.loop-hart.invariant
