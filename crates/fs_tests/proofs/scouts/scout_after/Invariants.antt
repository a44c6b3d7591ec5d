use Rattle.std.proofs.Common.{◌≡◌}
use Rattle.fs_tests.proofs.scouts.scout_after.Given as goal

abbrev pub invariant-loop : goal.invariant-loop
invariant-loop l = l.scout ≡ l.initial.scout
