use Rattle.std.proofs.Common.{None, unwrap_or}
use Rattle.fs_kinds.specs.declared.placement.Entry.{Entry}
use Rattle.fs_board_offers.specs.Parts.{Decision}
use Rattle.fs_board.proofs.Mapped.{next_mapped}
use Rattle.fs_board.proofs.part.Part.least.Goals as goal

abbrev least_of : Decision → Entry
least_of d = record { slot = d.slot; kind = unwrap_or d.decided None }

pub loop-decision-preserved : goal.loop-decision-preserved
loop-decision-preserved c =
    next_mapped least_of c.args.self.now c.as_slice-decision-items.result.now c.loop-decision.entries.items _ c.loop-decision.decision-index
    c.decision-item.result c.least.result c.as_slice-decision-items.ensures.value c.loop-decision-test.true c.decision-item.is
    c.loop-decision.invariant c.least.ensures c.in_ok-push.ensures.items
