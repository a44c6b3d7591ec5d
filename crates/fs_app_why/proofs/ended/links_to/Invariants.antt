use Rattle.std.proofs.Common.{◌≡◌, ◌++◌, length}
use Rattle.fs_region_refutation.specs.Views.{region_of}
use Rattle.fs_app_why.specs.Chains.{links_to}
use Rattle.fs_app_why.proofs.ended.links_to.Given as goal

-- the links so far, and those to come
abbrev pub invariant-loop-link : goal.invariant-loop-link
invariant-loop-link l =
    l.made.items ++ links_to l.basis l.placement (region_of l.region) l.first l.rest
    ≡ links_to l.basis l.placement (region_of l.region) l.first l.links

abbrev pub decreases-loop-link : goal.decreases-loop-link
decreases-loop-link l = length l.rest
