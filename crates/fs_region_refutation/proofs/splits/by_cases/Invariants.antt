use Rattle.std.proofs.Common.{◌≡◌, ◌+◌, ◌++◌, take, drop}
use Rattle.fs_cert_evidence.specs.Splits.{with_wanted}
use Rattle.fs_cert_evidence.specs.Trees.{is_open}
use Rattle.fs_region_refutation.specs.Views.{region_of, regions_of, all_wanted, AreOf}
use Rattle.fs_region_refutation.proofs.Lists.{made_and_kept}
use Rattle.fs_region_refutation.proofs.splits.by_cases.Given as goal

abbrev pub invariant-loop-way : goal.invariant-loop-way
invariant-loop-way l =
    (regions_of l.left.items
    ≡ made_and_kept (is_open l.basis)
    (λ way. with_wanted (take l.number (region_of l.region).wanted ++ all_wanted way ++ drop (l.number + 1) (region_of l.region).wanted) (region_of l.region))
    (take l.way-index l.way-items))
    × AreOf l.basis l.left.items
