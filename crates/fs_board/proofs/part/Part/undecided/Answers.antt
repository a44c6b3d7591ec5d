use Rattle.std.proofs.Common.{◌≤◌, length, arith}
use Rattle.fs_board.proofs.Filling.{rising_undecided}
use Rattle.fs_board.proofs.Mapped.{next_copied}
use Rattle.fs_board.proofs.part.Part.undecided.Invariants.{undecided_at}
use Rattle.fs_board.proofs.part.Part.undecided.Goals as goal

pub invariant_of-result : goal.invariant_of-result
invariant_of-result c =
    let slots = c.args.slots.now in
    let test = c.loop-slot-test.false in
    let past : length slots ≤ c.loop-slot.slot-index = omega arith in
    rising_undecided slots c.loop-slot.decisions.items c.loop-slot.slot-index c.loop-slot.invariant past c.requires

pub loop-slot-preserved : goal.loop-slot-preserved
loop-slot-preserved c =
    next_copied undecided_at c.args.slots.now c.loop-slot.decisions.items _ c.loop-slot.slot-index (record { hart = 0; at = 0 }) c.open.result
    c.loop-slot-test.true c.loop-slot.invariant c.open.ensures c.in_ok-push.ensures.items
