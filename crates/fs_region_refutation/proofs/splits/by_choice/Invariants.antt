use Rattle.std.proofs.Common.{◌≡◌, take}
use Rattle.fs_cert_evidence.specs.Splits.{chosen_at, keep}
use Rattle.fs_cert_evidence.specs.Trees.{is_open}
use Rattle.std.specs.Prelude.{◌==◌}
use Rattle.fs_region_refutation.specs.Views.{region_of, regions_of, AreOf}
use Rattle.fs_region_refutation.proofs.Lists.{made_and_kept}
use Rattle.fs_region_refutation.proofs.splits.by_choice.Given as goal

abbrev pub invariant-loop-number : goal.invariant-loop-number
invariant-loop-number l =
    (regions_of l.left.items
    ≡ made_and_kept (is_open l.basis) (λ n. keep l.name.hart (λ run. chosen_at l.name.at run == n) (region_of l.region)) (take l.number-index l.number-items))
    × AreOf l.basis l.left.items
