use Rattle.std.proofs.Common.{◌≡◌, length, take}
use Rattle.fs_model_axioms.specs.Earlier.{AreEarlier}
use Rattle.fs_model_axioms.proofs.Earlier.{IsSeen}
use Rattle.fs_model_axioms.proofs.global_order.earlier.Given as goal

-- the table and the bits of what was seen, for the list so far
abbrev pub invariant-loop-number : goal.invariant-loop-number
invariant-loop-number l = record {
  len : length l.earlier ≡ 64;
  seen : IsSeen (take l.number-index l.listed) l.seen;
  before : AreEarlier (take l.number-index l.listed) l.earlier;
}
