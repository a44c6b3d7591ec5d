use Rattle.fs_app_sites.specs.SitePrices.{IsSitePrice}
use Rattle.fs_app_sites.proofs.Members.{Left}
use Rattle.fs_app_sites.proofs.prices.are_prices.Given as goal

-- the members so far are prices
abbrev pub invariant-loop-name : goal.invariant-loop-name
invariant-loop-name l = Left IsSitePrice l.initial.name-iterator l.name-iterator
