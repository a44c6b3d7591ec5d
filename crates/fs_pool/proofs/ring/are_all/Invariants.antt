use Rattle.std.proofs.Common.{◌≡◌, ◌<◌, ℕ, length, Some}
use Rattle.std.specs.Prelude.{slice_get}
use Rattle.fs_pool.specs.Ring.{Hand}
use Rattle.fs_pool.proofs.ring.are_all.Given as goal

abbrev pub invariant-loop-i : goal.invariant-loop-i
invariant-loop-i l = (k : ℕ) (h : Hand) → k < l.i → slice_get l.hands k ≡ Some h → (h.number ≡ k) × (h.count ≡ length l.hands)
