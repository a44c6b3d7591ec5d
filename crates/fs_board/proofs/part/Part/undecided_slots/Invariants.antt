use Rattle.std.proofs.Common.{◌≡◌, take, map, is_none}
use Rattle.std.specs.Prelude.{filter}
use Rattle.fs_board.proofs.part.Part.undecided_slots.Given as goal

abbrev pub invariant-loop-decision : goal.invariant-loop-decision
invariant-loop-decision l = l.slots.items ≡ map (λ d. d.slot) (filter (λ d. is_none d.decided) (take l.decision-index l.self))
