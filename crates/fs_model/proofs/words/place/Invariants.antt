use Rattle.std.proofs.Common.{◌≡◌, drop, option_copied}
use Rattle.fs_model.specs.Placed.{placed}
use Rattle.fs_model.proofs.words.place.Given as goal

abbrev pub invariant-loop-slot : goal.invariant-loop-slot
invariant-loop-slot l = placed (option_copied l.prices) l.placement (drop l.slot-index l.fences) ≡ placed (option_copied l.prices) l.initial.placement l.fences
