-- What an execution has, said of a list of operations and a global memory order of them.
use Rattle.std.specs.Prelude.{ℕ, Bool, true, ◌&&◌, ◌||◌, not, Option, None, Some, is_some, option_and_then, unwrap_or, List, filter, length, count_by}
use Rattle.std.specs.List.{slice_index_or, last_or, list_any}
use Rattle.fs_model.specs.Test.{address_of}
use Rattle.fs_model.specs.declared.operation.Operation.{Operation}
use Rattle.fs_model.specs.Numbers.{is_same, numbers_below, stands_before}
use Rattle.fs_model.specs.Operations.{nothing, precedes}

abbrev pub at : List Operation → ℕ → Operation
at operations a = slice_index_or operations a nothing

abbrev pub may_return : List Operation → (gmo : List ℕ) → (load s : ℕ) → Bool
may_return operations gmo load s =
    is_some (at operations s).stored && is_same (at operations s).address (at operations load).address
    && (stands_before gmo s load || precedes (at operations s) (at operations load))

abbrev pub source_among : List Operation → (gmo : List ℕ) → (load : ℕ) → Option ℕ
source_among operations gmo load = last_or None (filter (may_return operations gmo load) gmo)

abbrev pub comes_between : List Operation → (gmo : List ℕ) → (s w m : ℕ) → Bool
comes_between operations gmo s w m =
    is_some (at operations m).stored && is_same (at operations m).address (at operations w).address
    && not (is_same (at operations m).hart (at operations w).hart) && stands_before gmo s m && stands_before gmo m w

abbrev pub follows_closely : List Operation → (gmo : List ℕ) → (source : Option ℕ) → (w : ℕ) → Bool
follows_closely operations gmo None w = true
follows_closely operations gmo (Some s) w =
    stands_before gmo s w && not (list_any (comes_between operations gmo s w) (numbers_below (length operations)))

-- how many operations are the harts'
abbrev pub count_of_harts : List Operation → ℕ
count_of_harts operations = count_by (λ operation. is_some operation.hart) operations

-- a is a store to the address
abbrev pub stores_at : List Operation → (address a : ℕ) → Bool
stores_at operations address a = is_some (at operations a).stored && is_same (at operations a).address (Some address)

abbrev pub last_store : List Operation → (gmo : List ℕ) → (address : ℕ) → Option ℕ
last_store operations gmo address = last_or None (filter (stores_at operations address) gmo)

-- the word that the location ends with
abbrev pub word_among : List Operation → (gmo : List ℕ) → (location : ℕ) → ℕ
word_among operations gmo location =
    unwrap_or (option_and_then (λ a. (at operations a).stored) (last_store operations gmo (address_of location))) 0
