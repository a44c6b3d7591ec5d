use Rattle.std.proofs.Common.{◌<◌, None, length, ◌∙◌, ap₂, sym, arith}
use Rattle.fs_board_offers.specs.Breaks.{break_cost, lesser_of}
use Rattle.fs_board_offers.proofs.LeastCosts.{least_more}
use Rattle.fs_board_offers.proofs.breaks.least_of.Goals as goal

pub loop-kind-preserved : goal.loop-kind-preserved
loop-kind-preserved c =
    let kinds = c.args.kinds.now in
    let test = c.loop-kind-test.true in
    let within : c.loop-kind.kind-index < length kinds = omega arith in
    record {
      so_far =
          c.lesser-least.ensures.value
          ∙ (ap₂ lesser_of c.loop-kind.invariant.so_far c.break_cost.ensures.value
          ∙ sym (least_more (break_cost c.args.offer.now c.args.pairs) kinds c.loop-kind.kind-index None within));
      most = c.lesser-least.ensures.most 1000000000 c.loop-kind.invariant.most c.break_cost.ensures.most;
    }
