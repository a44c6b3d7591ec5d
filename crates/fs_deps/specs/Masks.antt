-- What the bits of a run's dependencies say.
use Rattle.std.specs.Prelude.{◌≡◌, ℕ, ◌<◌, ◌≤◌, ◌==◌, nat_lt, ◌⊎◌, Bool, false, ◌&&◌, Option, None, Some, List, length, slice_get}
use Rattle.std.specs.Int.{bit_at}
use Rattle.fs_deps.specs.declared.deps.Masks.{Masks}
use Rattle.fs_model.specs.declared.step.Step.{Step}
use Rattle.fs_model.specs.Dependencies.{address_depends, data_depends, control_depends}

-- bit k of a mask of 32 bits is set
abbrev pub is_set : ℕ → ℕ → Bool
is_set mask k = nat_lt k 32 && (bit_at mask k == 1)

-- the masks of a step have bit i; not where there is no such step
abbrev pub mask_test : (Masks → ℕ) → Option Masks → ℕ → Bool
mask_test field None i = false
mask_test field (Some m) i = is_set (field m) i

-- step j has an address, a data or a control dependency on step i
abbrev pub has_address : List Masks → ℕ → ℕ → Bool
has_address masks i j = mask_test (λ m. m.address) (slice_get masks j) i

abbrev pub has_data : List Masks → ℕ → ℕ → Bool
has_data masks i j = mask_test (λ m. m.data) (slice_get masks j) i

abbrev pub has_control : List Masks → ℕ → ℕ → Bool
has_control masks i j = mask_test (λ m. m.control) (slice_get masks j) i

-- these are the dependencies between any two steps of the run
pub record IsDepsOf (steps : List Step) (masks : List Masks) : Type 0 where
  pub whole : length masks ≡ length steps
  pub address : (i j : ℕ) → j < length steps → has_address masks i j ≡ address_depends steps i j
  pub «data» : (i j : ℕ) → j < length steps → has_data masks i j ≡ data_depends steps i j
  pub control : (i j : ℕ) → j < length steps → has_control masks i j ≡ control_depends steps i j

-- a step that isn't there depends on none, and none on it
abbrev pub HasNoOthers : List Step → List Masks → Type 0
HasNoOthers steps masks =
    (i j : ℕ) → (length steps ≤ i) ⊎ (length steps ≤ j)
    → (has_address masks i j ≡ false) × (has_data masks i j ≡ false) × (has_control masks i j ≡ false)
