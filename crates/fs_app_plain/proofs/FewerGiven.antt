-- What steps of a run without a turn are to one another, the same steps of the whole run are: the form in which this is
-- given to what says it of operations.
use Rattle.std.proofs.Common.{◌≡◌, ℕ, ◌+◌, ◌<◌, Bool, true, Option, List, length}
use Rattle.std.specs.Prelude.{slice_get}
use Rattle.std.specs.List.{list_any}
use Rattle.fs_instr.specs.declared.instr.Instr.{Instr}
use Rattle.fs_model.specs.declared.step.Step.{Step}
use Rattle.fs_model.specs.Operations.{between, are_paired, instr_at, address_depends, data_depends, control_depends}
use Rattle.fs_app_plain.proofs.Cut.{whole, short, place_there}

-- what is so between two steps of the shorter list is so between them in the whole one
abbrev pub IsKept : (before turn after : List Step) → (List Step → ℕ → ℕ → Bool) → Type 0
IsKept before turn after f =
    (i j : ℕ) → i < j → j < length (short before turn after) → f (short before turn after) i j ≡ true
    → f (whole before turn after) (place_there before turn after i) (place_there before turn after j) ≡ true

-- an address that depends on step i stands between them
abbrev pub depends_between : List Step → ℕ → ℕ → Bool
depends_between steps i j = list_any (address_depends steps i) (between i j)

-- some instruction between them passes the test
abbrev pub instr_between : (Instr → Bool) → List Step → ℕ → ℕ → Bool
instr_between test steps i j = list_any (λ k. test (instr_at steps k)) (between i j)

-- some step after i and up to j does
abbrev pub step_between : (Option Step → Bool) → List Step → ℕ → ℕ → Bool
step_between test steps i j = list_any (λ k. test (slice_get steps k)) (between i (j + 1))

pub record SameBetween (before turn after : List Step) : Type 0 where
  pub by_address : IsKept before turn after address_depends
  pub by_data : IsKept before turn after data_depends
  pub by_control : IsKept before turn after control_depends
  pub by_address_between : IsKept before turn after depends_between
  pub paired : IsKept before turn after are_paired
  pub fence : (test : Instr → Bool) → IsKept before turn after (instr_between test)
  pub placed : (test : Option Step → Bool) → IsKept before turn after (step_between test)
