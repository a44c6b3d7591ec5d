-- The tests of a raw candidate, said of a list of operations and of its coherence orders.
use Rattle.std.specs.Prelude.{ℕ, ◌==◌, Bool, true, false, ◌&&◌, ◌||◌, not, is_some, Option, None, Some, option_map, option_and_then, unwrap_or, List, [], length}
use Rattle.std.specs.List.{list_any, list_all, last_or, slice_index_or}
use Rattle.fs_model.specs.Condition.{Condition, Always, Never, RegisterIs, LocationIs, Deny, Both, Either}
use Rattle.fs_model.specs.declared.operation.Operation.{Operation}
use Rattle.fs_model.specs.declared.step.Step.{Step}
use Rattle.fs_model.specs.Numbers.{is_same, numbers_below, stands_before}
use Rattle.fs_model.specs.Operations.{precedes, steps_of, are_paired}
use Rattle.fs_cand_listing.specs.inner.Listed.{numbered}

-- a stands before b in one of the orders
abbrev pub stands_in : List (List ℕ) → ℕ → ℕ → Bool
stands_in orders a b = list_any (λ stores. stands_before stores a b) orders

abbrev pub source_in : List (Option ℕ) → ℕ → Option ℕ
source_in sources a = slice_index_or sources a None

-- m is a store to the word of a that precedes it in program order
abbrev pub older_among : List Operation → (a m : ℕ) → Bool
older_among os a m =
    is_some (numbered os m).stored && is_same (numbered os m).address (numbered os a).address
    && precedes (numbered os m) (numbered os a)

-- the same, and later than s in one of the orders
abbrev pub newer_among : List Operation → List (List ℕ) → (a s m : ℕ) → Bool
newer_among os orders a s m = older_among os a m && stands_in orders s m

abbrev pub coherent_among : List Operation → List (List ℕ) → ℕ → Option ℕ → Bool
coherent_among os orders a None = true
coherent_among os orders a (Some s) =
    (not (is_same (numbered os s).hart (numbered os a).hart) || precedes (numbered os s) (numbered os a))
    && not (list_any (newer_among os orders a s) (numbers_below (length os)))

abbrev pub all_coherent_among : List Operation → List (Option ℕ) → List (List ℕ) → Bool
all_coherent_among os sources orders =
    list_all (λ a. coherent_among os orders a (source_in sources a)) (numbers_below (length os))

-- ---- pairs of an lr.w and an sc.w

-- r precedes w in program order, and they are a pair
abbrev pub pair_among : List (List Step) → List Operation → (r w : ℕ) → Bool
pair_among traces os r w =
    precedes (numbered os r) (numbered os w)
    && are_paired (unwrap_or (option_map (steps_of traces) (numbered os r).hart) []) (numbered os r).place (numbered os w).place

-- m is of another hart than w, after s and before w in the orders
abbrev pub foreign_among : List Operation → List (List ℕ) → (s w m : ℕ) → Bool
foreign_among os orders s w m =
    not (is_same (numbered os m).hart (numbered os w).hart) && stands_in orders s m && stands_in orders m w

abbrev pub closely_among : List Operation → List (List ℕ) → Option ℕ → ℕ → Bool
closely_among os orders None w = true
closely_among os orders (Some s) w =
    stands_in orders s w && not (list_any (foreign_among os orders s w) (numbers_below (length os)))

abbrev pub atomic_among : List (List Step) → List Operation → List (Option ℕ) → List (List ℕ) → (r w : ℕ) → Bool
atomic_among traces os sources orders r w = not (pair_among traces os r w) || closely_among os orders (source_in sources r) w

abbrev pub all_atomic_among : List (List Step) → List Operation → List (Option ℕ) → List (List ℕ) → Bool
all_atomic_among traces os sources orders =
    list_all (λ r. list_all (atomic_among traces os sources orders r) (numbers_below (length os))) (numbers_below (length os))

-- ---- the final state

-- the word of the location's last store
abbrev pub word_among : List Operation → List (List ℕ) → ℕ → ℕ
word_among os orders location =
    unwrap_or (option_and_then (λ a. (numbered os a).stored) (last_or None (slice_index_or orders location []))) 0

-- the condition may come out so, as far as registers tell
abbrev pub may_be : (ℕ → ℕ → ℕ) → Bool → Condition → Bool
may_be register true Always = true
may_be register false Always = false
may_be register true Never = false
may_be register false Never = true
may_be register true (RegisterIs hart reg w) = register hart reg == w
may_be register false (RegisterIs hart reg w) = not (register hart reg == w)
may_be register wanted (LocationIs location w) = true
may_be register wanted (Deny c) = may_be register (not wanted) c
may_be register true (Both c d) = may_be register true c && may_be register true d
may_be register false (Both c d) = may_be register false c || may_be register false d
may_be register true (Either c d) = may_be register true c || may_be register true d
may_be register false (Either c d) = may_be register false c && may_be register false d

-- some r and w are a pair
abbrev pub any_pair_among : List (List Step) → List Operation → Bool
any_pair_among traces os = list_any (λ r. list_any (pair_among traces os r) (numbers_below (length os))) (numbers_below (length os))
