-- Whether two orders of the same runs have the same sources and coherence orders, as tests.
use Rattle.std.specs.Prelude.{ℕ, ◌==◌, Bool, true, false, ◌&&◌, ◌||◌, not, Option, None, Some, is_some, length}
use Rattle.std.specs.List.{list_all}
use Rattle.fs_model.specs.Numbers.{is_same, numbers_below, stands_before}
use Rattle.fs_app_why.specs.declared.told_execution.Told.{Told}
use Rattle.fs_app_why.specs.Executions.{operation_at, source_at}

abbrev pub is_same_source : Option ℕ → Option ℕ → Bool
is_same_source (Some a) (Some b) = a == b
is_same_source (Some a) None = false
is_same_source None (Some b) = false
is_same_source None None = true

abbrev pub keeps_source : Told → Told → ℕ → Bool
keeps_source told other a = is_same_source (source_at told a) (source_at other a)

-- both are stores to one word, and a comes before b
abbrev pub comes_first : Told → ℕ → ℕ → Bool
comes_first told a b =
    is_some (operation_at told a).stored && is_some (operation_at told b).stored
    && is_same (operation_at told a).address (operation_at told b).address && stands_before told.order a b

abbrev pub keeps_first : Told → Told → ℕ → ℕ → Bool
keeps_first told other a b = not (comes_first told a b) || comes_first other a b

abbrev pub keeps_sources : Told → Told → Bool
keeps_sources told other = list_all (keeps_source told other) (numbers_below (length told.operations))

abbrev pub keeps_later : Told → Told → ℕ → Bool
keeps_later told other a = list_all (keeps_first told other a) (numbers_below (length told.operations))

abbrev pub keeps_coherence : Told → Told → Bool
keeps_coherence told other =
    list_all (λ a. list_all (keeps_first told other a) (numbers_below (length told.operations)))
    (numbers_below (length told.operations))

abbrev pub is_alike : Told → Told → Bool
is_alike told other = keeps_sources told other && keeps_coherence told other
