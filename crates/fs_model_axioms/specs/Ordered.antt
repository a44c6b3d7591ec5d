-- Operations with an order of the harts' own.
use Rattle.std.specs.Prelude.{◌≡◌, ℕ, Option, None, List, map, length}
use Rattle.std.specs.List.{slice_index_or}
use Rattle.fs_model.specs.declared.operation.Operation.{Operation}
use Rattle.fs_model.specs.Numbers.{numbers_below}
use Rattle.fs_model.specs.Operations.{PreExecution, accesses, operations as operations_of}
use Rattle.fs_model.specs.Source.{gmo, source_in}

-- the operations of runs and the initial stores, and the harts' operations in their order
pub record Arrangement : Type 0 where
  pub operations : List Operation
  pub listed : List ℕ

-- the listed source of an operation
abbrev pub source_at : List (Option ℕ) → ℕ → Option ℕ
source_at sources a = slice_index_or sources a None

-- how many operations are the harts', the global memory order, and the sources that it gives
pub record Keeps (operations : List Operation) (listed : List ℕ) (count : ℕ) (order : List ℕ) (sources : List (Option ℕ)) : Type 0 where
  pub counted : (x : PreExecution) → operations ≡ operations_of x → count ≡ length (accesses x)
  pub placed : (x : PreExecution) → operations ≡ operations_of x → order ≡ gmo x listed
  pub given : (x : PreExecution) → operations ≡ operations_of x
      → sources ≡ map (source_in x listed) (numbers_below (length operations))
