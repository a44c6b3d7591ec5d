use Rattle.std.proofs.Common.{◌≡◌, ◌++◌, take}
use Rattle.fs_values.specs.inner.Stores.{stores_of}
use Rattle.fs_values.proofs.stores.add_stores.Given as goal

abbrev pub invariant-loop-step : goal.invariant-loop-step
invariant-loop-step l = l.stores.items ≡ l.initial.stores.items ++ stores_of (take l.step-index l.steps)
