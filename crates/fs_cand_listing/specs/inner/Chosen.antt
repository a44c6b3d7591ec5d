-- What may be chosen with given runs.
use Rattle.std.specs.Prelude.{◌≡◌, ℕ, map, length}
use Rattle.fs_model.specs.Numbers.{numbers_below}
use Rattle.fs_model.specs.Operations.{PreExecution, accesses}
use Rattle.fs_cand_listing.specs.declared.choices.Choices.{Choices}
use Rattle.fs_cand_listing.specs.RawCandidates.{all_sources, own_stores}

-- these are the choices with these runs, in a test with so many locations
pub record AreChoices (x : PreExecution) (locations : ℕ) (c : Choices) : Type 0 where
  pub sources : c.sources.items ≡ all_sources x
  pub stores : c.stores.items ≡ map (own_stores x) (numbers_below locations)
  pub count : c.count ≡ length (accesses x)
