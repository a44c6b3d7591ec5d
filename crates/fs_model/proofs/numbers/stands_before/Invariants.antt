use Rattle.std.proofs.Common.{◌≡◌, take}
use Rattle.fs_model.specs.Numbers.{has_number, stands_before}
use Rattle.fs_model.proofs.numbers.stands_before.Given as goal

-- the answers for the list so far
abbrev pub invariant-loop-number : goal.invariant-loop-number
invariant-loop-number l = record {
  past : l.is_past ≡ has_number (take l.number-index l.listed) l.a;
  before : l.is_before ≡ stands_before (take l.number-index l.listed) l.a l.b;
}
