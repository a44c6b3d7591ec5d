use Rattle.std.proofs.Common.{All}
use Rattle.std.specs.List.Sorted.{IsStrictlyIncreasing}
use Rattle.fs_tests_shared.proofs.listing.same_sets.Given as goal

abbrev pub invariant-loop : goal.invariant-loop
invariant-loop l = All IsStrictlyIncreasing l.sets.items
