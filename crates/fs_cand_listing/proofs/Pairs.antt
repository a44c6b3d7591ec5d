-- Without pairs atomicity holds.
use Rattle.std.proofs.Common.{◌≡◌, ◌||◌, ℕ, Bool, true, false, Option, List, [], ◌∷◌, length, refl, ap, sym}
use Rattle.std.specs.Prelude.{not}
use Rattle.std.specs.List.{list_any, list_all}
use Rattle.std.proofs.lemmas.Bool.{false≢true}
use Rattle.fs_model.specs.declared.operation.Operation.{Operation}
use Rattle.fs_model.specs.declared.step.Step.{Step}
use Rattle.fs_model.specs.Numbers.{numbers_below}
use Rattle.fs_cand_listing.specs.inner.Tested.{source_in, pair_among, any_pair_among, closely_among, atomic_among, all_atomic_among}

first_none : (a b : Bool) → (a || b) ≡ false → a ≡ false
first_none true b e = e
first_none false b e = refl

second_none : (a b : Bool) → (a || b) ≡ false → b ≡ false
second_none true b e = absurd (false≢true (sym e))
second_none false b e = e

-- where none of the numbers passes f, each passes g
each_all : (f g : ℕ → Bool) → ((n : ℕ) → f n ≡ false → g n ≡ true) → (ns : List ℕ) → list_any f ns ≡ false → list_all g ns ≡ true
each_all f g to [] none = refl
each_all f g to (n ∷ ns) none =
    rw (to n (first_none (f n) (list_any f ns) none)) (each_all f g to ns (second_none (f n) (list_any f ns) none))

pub atomic_without : (traces : List (List Step)) (os : List Operation) (sources : List (Option ℕ)) (orders : List (List ℕ))
    → any_pair_among traces os ≡ false → all_atomic_among traces os sources orders ≡ true
atomic_without traces os sources orders none =
    each_all (λ r. list_any (pair_among traces os r) (numbers_below (length os)))
    (λ r. list_all (atomic_among traces os sources orders r) (numbers_below (length os)))
    (λ r none_with. each_all (pair_among traces os r) (atomic_among traces os sources orders r)
    (λ w no_pair. ap (λ b. not b || closely_among os orders (source_in sources r) w) no_pair)
    (numbers_below (length os)) none_with)
    (numbers_below (length os)) none
