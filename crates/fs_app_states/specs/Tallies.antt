-- States, and how often each was seen.
use Rattle.std.specs.Prelude.{◌≡◌, ℕ, ◌+◌, ◌-◌, ◌^◌, min, Bool, Option, Some, None, unwrap_or, List, map, fold, Vec, if◌then◌else◌}
use Rattle.std.specs.declared.alloc.Global.{Global}
use Rattle.std.specs.BTreeMap.{BTreeMap, insert_entry, is_at}
use Rattle.std.specs.Cmp.Lexicographic.{slice_cmp}
use Rattle.std.specs.List.Sorted.{IsStrictlySortedBy}
use Rattle.std.specs.Map.{keys_of, lookup}
use Rattle.std.specs.Ordering.{nat_cmp}
use Rattle.fs_app_states.specs.declared.tally.Row.{Row as Rows}

-- the words of a state, and how often it was seen, where a log says so
abbrev pub Counted : Type 0
Counted = List ℕ × Option ℕ

abbrev pub counted : Rows → Counted
counted row = (row.words, row.times)

-- these words are the state
abbrev pub is_of : (state words : List ℕ) → Bool
is_of state words = is_at (slice_cmp nat_cmp state) words

abbrev pub most_times : ℕ
most_times = 2 ^ 64 - 1

-- so often, and then so often more; where one isn't said, as the other says
abbrev pub sum_of : Option ℕ → Option ℕ → Option ℕ
sum_of None times = times
sum_of (Some n) None = Some n
sum_of (Some n) (Some m) = Some (min (n + m) most_times)

-- how often a state was seen that is among the rows or isn't yet, and then so often more
abbrev pub more_often : Option (Option ℕ) → Option ℕ → Option ℕ
more_often before times = sum_of (unwrap_or before None) times

-- how often the rows say that the state was seen; nothing where none has it
abbrev pub tallied : List Counted → (state : List ℕ) → Option (Option ℕ)
tallied rows state = fold (λ found row. if is_of state row.0 then Some (more_often found row.1) else found) None rows

-- each state of the rows once, with how often it was seen; they rise by their words
pub record IsTally (rows tally : List Counted) : Type 0 where
  pub rising : IsStrictlySortedBy (slice_cmp nat_cmp) (keys_of tally)
  pub exact : (state : List ℕ) → lookup (is_of state) tally ≡ tallied rows state

-- ---- what the map is

abbrev pub entries_of : BTreeMap (Vec ℕ Global) (Option ℕ) → List Counted
entries_of tally = map (λ entry. (entry.0.items, entry.1)) tally.entries

abbrev pub with_row : List Counted → Counted → List Counted
with_row tally row =
    insert_entry (slice_cmp nat_cmp) tally row.0 (more_often (lookup (is_of row.0) tally) row.1)
