use Rattle.std.proofs.Common.{◌≡◌, ℕ, ◌<◌, false, length, take}
use Rattle.std.specs.List.{slice_index_or}
use Rattle.fs_model.specs.Numbers.{has_number}
use Rattle.fs_model_axioms.proofs.each_once.lists_each_once.Given as goal

-- the table says which numbers are listed so far
abbrev pub invariant-loop-a : goal.invariant-loop-a
invariant-loop-a l =
    (length l.is_listed ≡ 256)
    × ((k : ℕ) → k < 256 → slice_index_or l.is_listed k false ≡ has_number (take l.a-index l.order) k)
