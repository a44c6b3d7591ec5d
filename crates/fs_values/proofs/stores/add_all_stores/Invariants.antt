use Rattle.std.proofs.Common.{◌≡◌, ◌++◌, take}
use Rattle.fs_values.specs.inner.Stores.{stores_in}
use Rattle.fs_values.proofs.stores.add_all_stores.Given as goal

abbrev pub invariant-loop-trace : goal.invariant-loop-trace
invariant-loop-trace l = l.stores.items ≡ l.initial.stores.items ++ stores_in (take l.trace-index l.traces)
