use Rattle.std.proofs.Common.{length, ap, arith}
use Rattle.fs_judge_outcomes.proofs.Counted.{one_hart}
use Rattle.fs_judge_outcomes.proofs.vacuous.has_many.Goals as goal

pub loop-hart-preserved : goal.loop-hart-preserved
loop-hart-preserved c =
    let product = c.saturating_mul.ensures in
    let least = c.min-lists.ensures in
    one_hart c.args.runs.now c.loop-hart.hart c.loop-hart.lists (length c.runs_of.result.now) c.min-lists.result c.loop-hart.invariant
    (ap length c.runs_of.ensures) (omega (arith, product, least))
