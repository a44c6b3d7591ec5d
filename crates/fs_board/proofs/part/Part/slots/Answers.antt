use Rattle.std.proofs.Common.{ap}
use Rattle.fs_board_offers.specs.Parts.{Decision}
use Rattle.fs_board.proofs.Mapped.{next_mapped}
use Rattle.fs_board.proofs.part.Part.slots.Goals as goal

pub loop-decision-preserved : goal.loop-decision-preserved
loop-decision-preserved c =
    next_mapped (λ (d : Decision). d.slot) c.args.self.now c.as_slice-decision-items.result.now c.loop-decision.slots.items _ c.loop-decision.decision-index
    c.decision-item.result c.decision.inside.slot c.as_slice-decision-items.ensures.value c.loop-decision-test.true c.decision-item.is
    c.loop-decision.invariant (ap (λ (d : Decision). d.slot) c.decision.view_is) c.in_ok-push.ensures.items
