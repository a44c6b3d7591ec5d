-- Sources and stores among operations, as they are listed and counted.
use Rattle.std.specs.Prelude.{ℕ, ◌+◌, ◌-◌, ◌==◌, ◌&&◌, nat_lt, Bool, not, is_some, Option, None, Some, List, [], ◌∷◌, ◌++◌, map, filter, length, if◌then◌else◌}
use Rattle.std.specs.List.{range_with_len, slice_index_or}
use Rattle.fs_model.specs.Test.{address_of}
use Rattle.fs_model.specs.declared.operation.Operation.{Operation}
use Rattle.fs_model.specs.Numbers.{is_same, numbers_below}
use Rattle.fs_model.specs.Operations.{nothing}
use Rattle.fs_cert_evidence.specs.CandidateFaults.{most_candidates}
use Rattle.fs_cand_listing.specs.Ways.{factorial}

abbrev pub numbered : List Operation → ℕ → Operation
numbered os a = slice_index_or os a nothing

-- s is another operation, which stores what a loads
abbrev pub is_source_among : List Operation → ℕ → ℕ → Bool
is_source_among os a s =
    is_some (numbered os s).stored && is_same (numbered os s).address (numbered os a).address && not (s == a)
    && is_same (numbered os s).stored (numbered os a).loaded

-- the sources of a among the k operations from number i on
abbrev pub sources_within : List Operation → (a i k : ℕ) → List (Option ℕ)
sources_within os a i k = map (λ s. Some s) (filter (is_source_among os a) (range_with_len i k))

-- the sources of a, where the first n operations are the harts'
abbrev pub sources_among : List Operation → (n a : ℕ) → List (Option ℕ)
sources_among os n a =
    if is_some (numbered os a).loaded then sources_within os a n (length os - n) ++ sources_within os a 0 n else None ∷ []

abbrev pub stores_among : List Operation → ℕ → ℕ → Bool
stores_among os location a = is_some (numbered os a).stored && is_same (numbered os a).address (Some (address_of location))

abbrev pub own_among : List Operation → ℕ → ℕ → List ℕ
own_among os n location = filter (stores_among os location) (numbers_below n)

-- how many sources a may have
abbrev pub number_of_sources : List Operation → ℕ → ℕ
number_of_sources os a =
    if is_some (numbered os a).loaded then length (filter (is_source_among os a) (numbers_below (length os))) else 1

-- ---- counting up to a limit

-- the number, or one more than there may be
abbrev pub capped : ℕ → ℕ
capped n = if nat_lt most_candidates n then most_candidates + 1 else n

-- how many orders numbers have
abbrev pub number_of_orders : List ℕ → ℕ
number_of_orders ns = factorial (length ns)

-- how many orders the first n operations' stores to a location have
abbrev pub orders_among : List Operation → (n location : ℕ) → ℕ
orders_among os n location = number_of_orders (own_among os n location)
