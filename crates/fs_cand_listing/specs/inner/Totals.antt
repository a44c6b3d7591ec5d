-- How many raw candidates there are with the first lists of runs.
use Rattle.std.specs.Prelude.{ℕ, List, [], length}
use Rattle.std.specs.List.{slice_index_or}
use Rattle.fs_model.specs.declared.test.Test.{Test}
use Rattle.fs_hart.specs.declared.trace.Trace.{Trace}
use Rattle.fs_hart.specs.Steps.{steps_in}
use Rattle.fs_cand_listing.specs.Ways.{products}
use Rattle.fs_cand_listing.specs.RawCandidates.{candidates_with}
use Rattle.fs_cand_listing.specs.inner.Listed.{capped}

-- the raw candidates with the runs of this number, counted up to the limit
abbrev pub capped_with : Test → List (List Trace) → ℕ → ℕ
capped_with t lists number = capped (length (candidates_with t (steps_in (slice_index_or (products lists) number []))))
