use Rattle.std.proofs.Common.{◌≡◌, true, take}
use Rattle.std.specs.List.{list_all}
use Rattle.fs_model.specs.Preserved.{Rule}
use Rattle.fs_ppo.specs.Rules.{number_of as number_of_rule}
use Rattle.fs_cert_evidence.specs.Regions.{Region}
use Rattle.fs_region_refutation.specs.Alone.{Knows}
use Rattle.fs_region_refutation.specs.inner.Asked.{is_ordered_in}
use Rattle.fs_region_refutation.proofs.musts.all_order.Given as goal

abbrev pub invariant-loop-run : goal.invariant-loop-run
invariant-loop-run l =
    (region : Region) (r : Rule) → Knows region l.first → Knows region l.second → number_of_rule r ≡ l.rule
    → list_all (is_ordered_in region l.placement r l.first.name l.second.name) (take l.run-index l.runs) ≡ true
