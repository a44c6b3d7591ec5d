use Rattle.std.proofs.Common.{◌≡◌}
use Rattle.fs_board_search.proofs.scout.Scout.prepare.Given as goal

abbrev pub invariant-loop : goal.invariant-loop
invariant-loop g l = l.self ≡ l.fn.self
