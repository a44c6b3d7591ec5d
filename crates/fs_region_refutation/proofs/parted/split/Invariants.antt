use Rattle.std.proofs.Common.{◌≡◌, take}
use Rattle.fs_region_refutation.specs.inner.Each.{of_hart, of_others}
use Rattle.fs_region_refutation.proofs.parted.split.Given as goal

abbrev pub invariant-loop-name : goal.invariant-loop-name
invariant-loop-name l =
    (l.own.items ≡ of_hart l.hart (take l.name-index l.names))
    × (l.others.items ≡ of_others l.hart (take l.name-index l.names))
