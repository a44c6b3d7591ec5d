-- Conditions on final states, as trees.
use Rattle.std.specs.Prelude.{ℕ, ◌+◌, ◌<◌, ◌^◌, max}
pub use Rattle.fs_model.specs.Executions.{Condition, Always, Never, RegisterIs, LocationIs, Deny, Both, Either}
pub use Rattle.fs_model.specs.OfTests.{condition_of}

-- the greatest number of connectives and denials around an atom, `true` or `false`
abbrev pub nesting : Condition → ℕ
nesting Always = 0
nesting Never = 0
nesting (RegisterIs hart reg word) = 0
nesting (LocationIs location word) = 0
nesting (Deny c) = nesting c + 1
nesting (Both c d) = max (nesting c) (nesting d) + 1
nesting (Either c d) = max (nesting c) (nesting d) + 1

-- its atoms speak of the first so many harts and locations alone, with words of 32 bits
abbrev pub SpeaksOf : (harts locations : ℕ) → Condition → Type 0
SpeaksOf harts locations Always = Unit {0}
SpeaksOf harts locations Never = Unit {0}
SpeaksOf harts locations (RegisterIs hart reg word) = (hart < harts) × (reg < 32) × (word < 2 ^ 32)
SpeaksOf harts locations (LocationIs location word) = (location < locations) × (word < 2 ^ 32)
SpeaksOf harts locations (Deny c) = SpeaksOf harts locations c
SpeaksOf harts locations (Both c d) = SpeaksOf harts locations c × SpeaksOf harts locations d
SpeaksOf harts locations (Either c d) = SpeaksOf harts locations c × SpeaksOf harts locations d
