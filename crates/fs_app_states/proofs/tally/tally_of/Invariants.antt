use Rattle.std.proofs.Common.{◌≡◌, ℕ, List, map, take}
use Rattle.std.specs.List.Sorted.{IsStrictlySortedBy}
use Rattle.std.specs.Map.{keys_of, lookup}
use Rattle.std.specs.Ordering.{nat_cmp}
use Rattle.std.specs.Cmp.Lexicographic.{slice_cmp}
use Rattle.fs_app_states.specs.Tallies.{counted, is_of, tallied, entries_of}
use Rattle.fs_app_states.proofs.tally.tally_of.Given as goal

abbrev pub invariant-loop-row : goal.invariant-loop-row
invariant-loop-row l = ((state : List ℕ) → lookup (is_of state) (entries_of l.tally) ≡ tallied (map counted (take l.row-index l.rows)) state)
    × IsStrictlySortedBy (slice_cmp nat_cmp) (keys_of (entries_of l.tally))
