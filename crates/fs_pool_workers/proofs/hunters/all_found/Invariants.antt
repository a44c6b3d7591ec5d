use Rattle.std.proofs.Common.{◌≡◌, ◌<◌, ℕ, true}
use Rattle.std.specs.Prelude.{Ok}
use Rattle.std.specs.List.{slice_index_or}
use Rattle.fs_pool_workers.proofs.hunters.all_found.Given as goal

abbrev pub invariant-loop-one : goal.invariant-loop-one
invariant-loop-one l = (i : ℕ) (d : _) → i < l.one-index → slice_index_or l.found i d ≡ Ok true
