use Rattle.std.proofs.Common.{◌≡◌, ◌≤◌, ◌+◌, ◌*◌, drop}
use Rattle.fs_app_sites_check_and_audit.specs.Marks.{cost_from}
use Rattle.fs_app_sites_check_and_audit.proofs.cost.own_cost.Given as goal

-- with the sites that are left it is what all cost, and no number too large
abbrev pub invariant-loop-site : goal.invariant-loop-site
invariant-loop-site l = record {
  whole : l.cost + cost_from l.marks l.site (drop l.site l.offers) ≡ cost_from l.marks 0 l.offers;
  most : l.cost ≤ 4294967296 * l.site;
}
