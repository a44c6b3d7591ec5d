-- The candidate of an execution, as its order gives it.
use Rattle.std.proofs.Common.{◌≡◌, ◌∙◌, ℕ, ◌+◌, Option, None, is_some, List, [], ◌∷◌, ◌++◌, map, filter, length, refl, sym, ap, ap₂, arith, if◌then◌else◌}
use Rattle.std.specs.List.{range_with_len}
use Rattle.std.proofs.lemmas.List.FromFn.{map-range_with_len_more}
use Rattle.fs_model.specs.declared.operation.Operation.{Operation}
use Rattle.fs_model.specs.Test.{address_of}
use Rattle.fs_model.specs.Numbers.{numbers_below}
use Rattle.fs_model.specs.Operations.{PreExecution, operations, is_load}
use Rattle.fs_model.specs.Source.{gmo, source_in}
use Rattle.fs_model.specs.Shows.{is_store_to}
use Rattle.fs_model_axioms.specs.Among.{at, stores_at}
use Rattle.fs_model_axioms.specs.Ordered.{source_at}
use Rattle.fs_model_axioms.proofs.Sources.{source_of}

-- one item more of a mapped range
pub one_more : {X : Type 0} (f : ℕ → X) (items pushed : List X) (x : X) (n : ℕ)
    → items ≡ map f (range_with_len 0 n) → x ≡ f n → pushed ≡ items ++ x ∷ [] → pushed ≡ map f (range_with_len 0 (n + 1))
one_more f items pushed x n e k l = l ∙ rw (e, k) (sym (map-range_with_len_more f 0 n n (omega arith)))

map_alike : {X Y : Type 0} (f g : X → Y) → ((x : X) → f x ≡ g x) → (xs : List X) → map f xs ≡ map g xs
map_alike f g same [] = refl
map_alike f g same (x ∷ xs) = ap₂ (λ y ys. y ∷ ys) (same x) (map_alike f g same xs)

-- of operations with these sources, those of the loads
abbrev pub sources_from : List Operation → List (Option ℕ) → List (Option ℕ)
sources_from among sources =
    map (λ a. if is_some (at among a).loaded then source_at sources a else None) (numbers_below (length among))

-- the stores to each location, in this order
abbrev pub orders_from : List Operation → List ℕ → ℕ → List (List ℕ)
orders_from among order n = map (λ location. filter (stores_at among (address_of location)) order) (numbers_below n)

-- the sources of loads, from the listed sources of all operations
pub loaded_from : (x : PreExecution) (listed : List ℕ) (among : List Operation) (sources : List (Option ℕ))
    → among ≡ operations x → sources ≡ map (source_in x listed) (numbers_below (length among))
    → sources_from among sources
    ≡ map (λ a. if is_load x a then source_in x listed a else None) (numbers_below (length (operations x)))
loaded_from x listed among sources same given =
    map_alike _ (λ a. if is_some (at among a).loaded then source_in x listed a else None)
    (λ a. ap (λ s. if is_some (at among a).loaded then s else None) (source_of x listed sources (length among) a (ap length same) given))
    (numbers_below (length among))
    ∙ ap (λ (os : List Operation). map (λ a. if is_some (at os a).loaded then source_in x listed a else None) (numbers_below (length os))) same

-- the stores to each location, from the global memory order
pub stored_in : (x : PreExecution) (listed order : List ℕ) (among : List Operation) (n : ℕ)
    → among ≡ operations x → order ≡ gmo x listed
    → orders_from among order n ≡ map (λ location. filter (is_store_to x location) (gmo x listed)) (numbers_below n)
stored_in x listed order among n same placed =
    ap (λ (os : List Operation). orders_from os order n) same
    ∙ ap (λ (numbers : List ℕ). map (λ location. filter (is_store_to x location) numbers) (numbers_below n)) placed
