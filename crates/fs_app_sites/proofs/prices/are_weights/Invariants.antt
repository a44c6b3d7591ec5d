use Rattle.fs_app_sites.specs.SitePrices.{IsSiteWeight}
use Rattle.fs_app_sites.proofs.Members.{Left}
use Rattle.fs_app_sites.proofs.prices.are_weights.Given as goal

-- the members so far are weights
abbrev pub invariant-loop-weight : goal.invariant-loop-weight
invariant-loop-weight l = Left IsSiteWeight l.initial.weight-iterator l.weight-iterator
