-- The parts of the recursive definition of dependencies.
use Rattle.std.specs.Prelude.{ℕ, Bool, ◌&&◌, not, Option, List}
use Rattle.std.specs.List.{list_any}
use Rattle.fs_instr.specs.Instructions.{sources_of, carries_of}
use Rattle.fs_model.specs.declared.step.Step.{Step}
use Rattle.fs_model.specs.Numbers.{between}
use Rattle.fs_model.specs.Operations.{instr_at}
use Rattle.fs_model.specs.Dependencies.{writes, depends_within}

-- step i writes the register, and no step between i and j does
abbrev pub writes_last : List Step → (i j : ℕ) → Option ℕ → Bool
writes_last steps i j register = writes steps i register && not (list_any (λ m. writes steps m register) (between i j))

-- step m carries, and it depends on i and j depends on it
abbrev pub leads_through : ℕ → List Step → (i j : ℕ) → Option ℕ → (m : ℕ) → Bool
leads_through distance steps i j register m =
    carries_of (instr_at steps m) && list_any (depends_within distance steps i m) (sources_of (instr_at steps m))
    && depends_within distance steps m j register
