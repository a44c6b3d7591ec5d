-- What is known of the steps of a run so far.
use Rattle.std.specs.Prelude.{◌≡◌, ℕ, Option, None, Some, List, length, slice_index}
use Rattle.std.specs.List.{list_any}
use Rattle.fs_model.specs.declared.step.Step.{Step}
use Rattle.fs_model.specs.Dependencies.{depends, address_depends, data_depends, control_depends}
use Rattle.fs_deps.specs.declared.deps.Masks.{Masks}
use Rattle.fs_deps.specs.declared.tracker.Tracker.{Tracker}
use Rattle.fs_deps.specs.Masks.{is_set}

-- the steps on which a read of the register depends
abbrev pub read_mask : Tracker → Option ℕ → ℕ
read_mask t None = 0
read_mask t (Some register) = slice_index t.registers register

-- the steps of the mask are those on which a read of one of the registers depends
abbrev pub IsAnyOf : Tracker → List (Option ℕ) → ℕ → Type 0
IsAnyOf t registers mask = (i : ℕ) → is_set mask i ≡ list_any (λ r. is_set (read_mask t r) i) registers

-- just before step j: the steps on which step j depends through each register, and by control
pub record IsTracked (steps : List Step) (j : ℕ) (t : Tracker) : Type 0 where
  pub whole : length t.registers ≡ 32
  pub registers : (i : ℕ) (register : Option ℕ) → is_set (read_mask t register) i ≡ depends steps i j register
  pub branches : (i : ℕ) → is_set t.branches i ≡ control_depends steps i j

-- these are the dependencies of step j
pub record AreMasks (steps : List Step) (j : ℕ) (m : Masks) : Type 0 where
  pub address : (i : ℕ) → is_set m.address i ≡ address_depends steps i j
  pub «data» : (i : ℕ) → is_set m.«data» i ≡ data_depends steps i j
  pub control : (i : ℕ) → is_set m.control i ≡ control_depends steps i j
