use Rattle.std.proofs.Common.{◌≤◌, Option, Some, length, ap, arith}
use Rattle.std.specs.Prelude.{if◌then◌else◌}
use Rattle.fs_kinds.specs.declared.kind.Kind.{Kind}
use Rattle.fs_kinds.specs.declared.slot.Slot.{Slot}
use Rattle.fs_kinds.specs.Slot.{is_same_slot}
use Rattle.fs_board_offers.specs.Parts.{Decision}
use Rattle.fs_board.proofs.Filling.{rising_decided}
use Rattle.fs_board.proofs.Mapped.{next_mapped}
use Rattle.fs_board.proofs.part.Part.decide.Goals as goal

pub invariant_of-result : goal.invariant_of-result
invariant_of-result c =
    let part = c.args.self.now in
    let test = c.loop-decision-test.false in
    let same = ap length c.as_slice-decision-items.ensures.value in
    let past : length part ≤ c.loop-decision.decision-index = omega arith in
    rising_decided c.args.slot c.args.kind part c.loop-decision.decisions.items c.loop-decision.decision-index c.loop-decision.invariant past c.as_slice-decision-items.ensures.rising

abbrev decided_at : Slot → Option Kind → Decision → Decision
decided_at slot kind d = if is_same_slot d.slot slot then record { slot = d.slot; decided = Some kind } else d

pub loop-decision-preserved : goal.loop-decision-preserved
loop-decision-preserved c =
    next_mapped (decided_at c.args.slot c.args.kind) c.args.self.now c.as_slice-decision-items.result.now c.loop-decision.decisions.items _
    c.loop-decision.decision-index c.decision-item.result c.decided_at.result c.as_slice-decision-items.ensures.value c.loop-decision-test.true
    c.decision-item.is c.loop-decision.invariant c.decided_at.ensures c.in_ok-push.ensures.items
