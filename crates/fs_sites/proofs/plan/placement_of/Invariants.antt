use Rattle.std.proofs.Common.{◌≡◌}
use Rattle.fs_sites.proofs.Entering.{filled_so_far}
use Rattle.fs_sites.proofs.plan.placement_of.Given as goal

abbrev pub invariant-loop-entry : goal.invariant-loop-entry
invariant-loop-entry l = l.placement ≡ filled_so_far l.entry-index l.entries
