use Rattle.std.proofs.Common.{◌≡◌, ◌<◌, ℕ, length}
use Rattle.fs_kinds.specs.declared.fault.Fault.{Fault}
use Rattle.fs_model.specs.TooMany.{IsHartFault}
use Rattle.fs_hart.specs.Listing.{IsOffered}
use Rattle.fs_values.specs.AllRuns.{AreListed}
use Rattle.fs_values.specs.inner.Stores.{AreStoresBelow}
use Rattle.fs_values.proofs.stores.round_over.Given as goal

abbrev pub invariant-loop-hart : goal.invariant-loop-hart
invariant-loop-hart l = record {
  stores : AreStoresBelow l.test (IsOffered l.sets) l.hart l.stores.items;
  clean : (h : ℕ) (f : Fault) → h < l.hart → IsHartFault l.test (IsOffered l.sets) h f → ⊥;
  long : length l.runs.items ≡ l.hart;
  listed : AreListed l.test l.sets l.runs.items;
}
