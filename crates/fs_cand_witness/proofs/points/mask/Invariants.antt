use Rattle.std.proofs.Common.{◌≡◌, ℕ, ◌&&◌}
use Rattle.std.specs.Prelude.{nat_lt}
use Rattle.std.specs.List.{slice_index_or}
use Rattle.fs_model.specs.Operations.{nothing}
use Rattle.fs_cand_witness.specs.Edges.{has_bit}
use Rattle.fs_cand_witness.specs.inner.Halves.{is_on, is_of}
use Rattle.fs_cand_witness.proofs.points.mask.Given as goal

-- those among the numbers so far
abbrev pub invariant-loop-a : goal.invariant-loop-a
invariant-loop-a l =
    (y : ℕ) → has_bit l.mask y
    ≡ (nat_lt y l.a && (is_on l.half l.hart l.place (slice_index_or l.operations y nothing) && is_of l.class (slice_index_or l.operations y nothing)))
