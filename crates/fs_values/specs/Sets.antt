-- The value sets of a test: for each location the words that it can come to hold.
use Rattle.std.specs.Prelude.{◌≡◌, ◌↔◌, ℕ, List, All, length}
use Rattle.std.specs.List.Sorted.{IsStrictlyIncreasing}
use Rattle.fs_model.specs.declared.test.Test.{Test}
use Rattle.fs_model.specs.Values.{IsValue}
use Rattle.fs_hart.specs.Listing.{IsOffered}

-- a set for each location, whose words rise: those that V says
pub record AreSets (t : Test) (V : ℕ → ℕ → Type 0) (sets : List (List ℕ)) : Type 0 where
  pub locations : length sets ≡ length t.locations
  pub rising : All IsStrictlyIncreasing sets
  pub words : (k word : ℕ) → IsOffered sets k word ↔ V k word

-- the value sets
abbrev pub AreValues : Test → List (List ℕ) → Type 0
AreValues t sets = AreSets t (IsValue t) sets
