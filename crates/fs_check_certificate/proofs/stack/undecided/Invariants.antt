use Rattle.std.proofs.Common.{◌≡◌, map, take, None}
use Rattle.fs_kinds.specs.declared.slot.Slot.{Slot}
use Rattle.fs_board_offers.specs.Parts.{Decision}
use Rattle.fs_check_certificate.proofs.stack.undecided.Given as goal

abbrev pub undecided_at : Slot → Decision
undecided_at slot = record { slot = slot; decided = None }

abbrev pub invariant-loop-slot : goal.invariant-loop-slot
invariant-loop-slot l = l.decisions.items ≡ map undecided_at (take l.slot-index l.slots)
