use Rattle.std.proofs.Common.{◌≡◌, drop}
use Rattle.fs_region_refutation.specs.inner.Each.{stores_there}
use Rattle.fs_region_refutation.proofs.parted.stores_there.Given as goal

abbrev pub invariant-loop-name : goal.invariant-loop-name
invariant-loop-name l =
    stores_there l.names l.location l.run.steps ≡ stores_there (drop l.name-index l.names) l.location l.run.steps
