use Rattle.std.proofs.Common.{◌≡◌, drop}
use Rattle.fs_app_sites_check_and_audit.specs.Marks.{all_cost_from}
use Rattle.fs_app_sites_check_and_audit.proofs.cost.all_cost.Given as goal

-- so far each costs something
abbrev pub invariant-loop-site : goal.invariant-loop-site
invariant-loop-site l = all_cost_from l.marks l.site (drop l.site l.offers) ≡ all_cost_from l.marks 0 l.offers
