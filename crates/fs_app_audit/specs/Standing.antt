-- At which access of its hart a FENCE stands, and for which kind.
use Rattle.std.specs.Prelude.{ℕ, length, nat_lt, Bool, false, ◌&&◌, ◌||◌, not, Option, None, Some, option_and_then, option_map, unwrap_or, List, drop, take, slice_get, if◌then◌else◌}
use Rattle.std.specs.List.{find, list_any}
use Rattle.std.specs.Option.{option_or}
use Rattle.fs_instr.specs.Instructions.{is_memory, target_of}
use Rattle.fs_instr.specs.declared.instr.Instr.{Instr}
use Rattle.fs_kinds.specs.declared.kind.Kind.{Kind}
use Rattle.fs_kinds.specs.Kind.{no_stronger}
use Rattle.fs_model.specs.Numbers.{is_same, numbers_below}
use Rattle.fs_model.specs.Printed.{is_target}
use Rattle.fs_model.specs.Slots.{is_memory_at}
use Rattle.fs_app_audit.specs.Unfenced.{is_fence, memory_kind}

-- ---- where it stands

-- instruction `at` passes the test
abbrev pub is_at : (Instr → Bool) → List Instr → ℕ → Bool
is_at test code at = unwrap_or (option_map test (slice_get code at)) false

abbrev pub is_fence_at : List Instr → ℕ → Bool
is_fence_at = is_at is_fence

-- it goes to where an access is still to come
abbrev pub leads_on : List Instr → Instr → Bool
leads_on code i = unwrap_or (option_map (λ target. list_any is_memory (drop target code)) (target_of i)) false

-- An access stands there, or a label, or a branch to where an access is still to come.
abbrev pub is_stop : List Instr → ℕ → Bool
is_stop code at = is_target code at || (is_memory_at code at || is_at (leads_on code) code at)

abbrev pub reached : List Instr → ℕ → Option ℕ
reached code at = if is_memory_at code at && not (is_target code at) then Some at else None

-- The access at which a FENCE at `at` stands: the first one behind it, to which each run comes that has an access
-- behind the FENCE, and to which no run comes that passes the FENCE by. For no label stands between, nor at the access,
-- and no branch but to where no access is to come. A FENCE right before the access orders the same.
abbrev pub access_after : List Instr → ℕ → Option ℕ
access_after code at = option_and_then (reached code) (find (λ n. nat_lt at n && is_stop code n) (numbers_below (length code)))

-- a FENCE at `at` stands at this access
abbrev pub stands_at : List Instr → (access at : ℕ) → Bool
stands_at code access at = is_fence_at code at && is_same (access_after code at) (Some access)

-- an access stands before it, and one behind it
abbrev pub is_between_accesses : List Instr → ℕ → Bool
is_between_accesses code at = list_any is_memory (take at code) && list_any is_memory (drop at code)

-- ---- which FENCE at an access stands for a kind

-- the FENCE orders all that the kind orders; it orders that and no more
abbrev pub covers : Kind → Option Kind → Bool
covers kind None = false
covers kind (Some own) = no_stronger kind own

abbrev pub is_of : Kind → Option Kind → Bool
is_of kind None = false
is_of kind (Some own) = no_stronger kind own && no_stronger own kind

-- the first FENCE at the access whose kind passes the test
abbrev pub first_at : (Option Kind → Bool) → List Instr → (access : ℕ) → Option ℕ
first_at test code access =
    find (λ at. stands_at code access at && is_at (λ i. test (memory_kind i)) code at) (numbers_below access)

-- Of the FENCEs at the access the first of this kind; or else the first that covers it; or else the first.
abbrev pub answering : List Instr → (access : ℕ) → Kind → Option ℕ
answering code access kind =
    option_or (first_at (is_of kind) code access)
    (option_or (first_at (covers kind) code access) (find (stands_at code access) (numbers_below access)))
