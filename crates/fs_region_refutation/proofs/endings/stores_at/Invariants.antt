use Rattle.std.proofs.Common.{◌≡◌, drop}
use Rattle.std.specs.List.{list_any}
use Rattle.fs_region_refutation.specs.inner.Each.{stores_under}
use Rattle.fs_region_refutation.proofs.endings.stores_at.Given as goal

abbrev pub invariant-loop-name : goal.invariant-loop-name
invariant-loop-name l =
    list_any (stores_under l.basis l.location l.run.steps) l.names
    ≡ list_any (stores_under l.basis l.location l.run.steps) (drop l.name-index l.names)
