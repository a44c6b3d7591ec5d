use Rattle.std.proofs.Common.{◌≡◌, length}
use Rattle.fs_app_why.specs.Chains.{stale_in}
use Rattle.fs_app_why.proofs.ended.stale_in.Given as goal

-- what is found in the links to come is what is found in all
abbrev pub invariant-loop-link : goal.invariant-loop-link
invariant-loop-link l = stale_in l.first l.links ≡ stale_in l.first l.rest

abbrev pub decreases-loop-link : goal.decreases-loop-link
decreases-loop-link l = length l.rest
