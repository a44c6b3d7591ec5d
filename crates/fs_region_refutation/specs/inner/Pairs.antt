-- The addresses and words of what runs load or store at a position.
use Rattle.std.specs.Prelude.{◌≡◌, ℕ, ◌==◌, Bool, false, ◌&&◌, Option, Some, None, List}
use Rattle.std.specs.List.{list_any, filter_map}
use Rattle.std.specs.List.Sorted.{IsSorted}
use Rattle.std.specs.Ordering.{nat_cmp, ordering_then}
use Rattle.std.specs.declared.cmp.Ordering.{Ordering}
use Rattle.fs_model.specs.declared.step.Step.{Step}
use Rattle.fs_cert_evidence.specs.Regions.{address_at}
use Rattle.fs_region_refutation.specs.declared.musts.Access.{Access}
use Rattle.fs_region_refutation.specs.Views.{access_of}

-- both, if both are there
abbrev pub both : Option ℕ → Option ℕ → Option (ℕ × ℕ)
both (Some address) (Some word) = Some (address, word)
both (Some address) None = None
both None word = None

abbrev pub pair_at : Access → ℕ → List Step → Option (ℕ × ℕ)
pair_at access at run = both (address_at run at) (access_of access run at)

abbrev pub pairs_of : Access → ℕ → List (List Step) → List (ℕ × ℕ)
pairs_of access at = filter_map (pair_at access at)

-- a pair is there, and is one of these
abbrev pub is_among : List (ℕ × ℕ) → Option (ℕ × ℕ) → Bool
is_among pairs (Some pair) = list_any (λ other. other.0 == pair.0 && other.1 == pair.1) pairs
is_among pairs None = false

-- by the address, and by the word at one address
abbrev pub by_pair : ℕ × ℕ → ℕ × ℕ → Ordering
by_pair one other = ordering_then (nat_cmp one.0 other.0) (nat_cmp one.1 other.1)

-- these, in order, are what the runs access at the position
pub record ArePairs (access : Access) (at : ℕ) (runs : List (List Step)) (pairs : List (ℕ × ℕ)) : Type 0 where
  pub has : (pair : Option (ℕ × ℕ)) → is_among pairs pair ≡ is_among (pairs_of access at runs) pair
  pub sorted : IsSorted by_pair pairs
