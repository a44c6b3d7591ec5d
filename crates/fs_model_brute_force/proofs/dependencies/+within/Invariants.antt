use Rattle.std.proofs.Common.{◌≡◌, ◌+◌, ◌-◌}
use Rattle.std.specs.List.{list_any, range_with_len}
use Rattle.fs_model.specs.Dependencies.{depends_within}
use Rattle.fs_model_brute_force.specs.inner.Dependencies.{leads_through}
use Rattle.fs_model_brute_force.proofs.dependencies.+within.Given as goal

abbrev pub decreases-depends_within : goal.decreases-depends_within
decreases-depends_within l = l.distance + l.distance

abbrev pub decreases-leads_through : goal.decreases-leads_through
decreases-leads_through l = l.distance + l.distance + 1

-- the steps that are still to come decide
abbrev pub invariant-depends_within-loop-m : goal.invariant-depends_within-loop-m
invariant-depends_within-loop-m l =
    list_any (leads_through (l.distance - 1) l.steps l.i l.j l.register) (range_with_len l.m (l.j - l.m))
    ≡ depends_within l.distance l.steps l.i l.j l.register
