-- The recursive definition of dependencies, part by part.
use Rattle.std.proofs.Common.{◌≡◌, ◌-◌, ℕ, zero, suc, false, List, Option, refl, arith}
use Rattle.std.specs.List.{list_any}
use Rattle.fs_model.specs.declared.step.Step.{Step}
use Rattle.fs_model.specs.Numbers.{between}
use Rattle.fs_model.specs.Dependencies.{depends_within}
use Rattle.fs_model_brute_force.specs.inner.Dependencies.{writes_last, leads_through}

-- where i doesn't write the register last, the steps between decide
pub within_next : (distance : ℕ) (steps : List Step) (i j : ℕ) (register : Option ℕ) → (distance ≡ 0 → ⊥)
    → writes_last steps i j register ≡ false
    → list_any (leads_through (distance - 1) steps i j register) (between i j) ≡ depends_within distance steps i j register
within_next zero steps i j register some fails = absurd (some refl)
within_next (suc distance) steps i j register some fails = let e : suc distance - 1 ≡ distance = omega arith in rw (e, fails) refl
