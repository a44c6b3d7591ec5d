-- What registers and locations begin with.
use Rattle.std.specs.Prelude.{◌≡◌, ℕ, List, [], ◌∷◌, length, map, if◌then◌else◌}
use Rattle.std.specs.List.{range_with_len}
use Rattle.fs_model.specs.declared.test.Location.{Location}
use Rattle.fs_litmus.specs.Locations.{Names}
use Rattle.fs_litmus.specs.Settings.{same_holder}
use Rattle.fs_litmus.specs.declared.settings.Holder.{Holder}
use Rattle.fs_litmus.specs.declared.settings.Holder.TheVariants as holder
use Rattle.fs_litmus.specs.declared.settings.Setting.{Setting}

-- the word that is set for a register or location, and 0 where none is
abbrev pub word_at : List Setting → Holder → ℕ
word_at [] p = 0
word_at (s ∷ ss) p = if same_holder s.holder p then s.word else word_at ss p

-- the words of a hart's 32 registers
abbrev pub registers_of : List Setting → ℕ → List ℕ
registers_of ss h = map (λ r. word_at ss (holder.Register h r)) (range_with_len 0 32)

-- those of each of so many harts
abbrev pub starts_of : ℕ → List Setting → List (List ℕ)
starts_of columns ss = map (registers_of ss) (range_with_len 0 columns)

-- the locations of these names, each with the word that is set for it
pub record AreLocations (names : Names) (ss : List Setting) (xs : List Location) : Type 0 where
  pub named : map (λ x. x.name) xs ≡ names
  pub words : map (λ x. x.word) xs ≡ map (λ k. word_at ss (holder.Location k)) (range_with_len 0 (length names))
