use Rattle.std.proofs.Common.{◌≡◌, take, drop, false, is_none}
use Rattle.std.specs.List.{find, list_any}
use Rattle.fs_board.proofs.part.Part.first_undecided.Given as goal

abbrev pub invariant-loop-decision : goal.invariant-loop-decision
invariant-loop-decision l = record {
  before : list_any (λ d. is_none d.decided) (take l.decision-index l.self) ≡ false;
  rest : find (λ d. is_none d.decided) (drop l.decision-index l.self) ≡ find (λ d. is_none d.decided) l.self;
}
