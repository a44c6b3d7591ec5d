-- Conditions over more harts.
use Rattle.std.proofs.Common.{ℕ, ◌≤◌, arith}
use Rattle.fs_model.specs.Condition.{Condition, Always, Never, RegisterIs, LocationIs, Deny, Both, Either, SpeaksOf}

pub SpeaksOf-more : (few many locations : ℕ) (c : Condition) → few ≤ many → SpeaksOf few locations c → SpeaksOf many locations c
SpeaksOf-more few many locations Always more there = there
SpeaksOf-more few many locations Never more there = there
SpeaksOf-more few many locations (RegisterIs hart reg word) more there = (omega (arith, there.0), there.1, there.2)
SpeaksOf-more few many locations (LocationIs location word) more there = there
SpeaksOf-more few many locations (Deny c) more there = SpeaksOf-more few many locations c more there
SpeaksOf-more few many locations (Both c d) more there = (SpeaksOf-more few many locations c more there.0, SpeaksOf-more few many locations d more there.1)
SpeaksOf-more few many locations (Either c d) more there = (SpeaksOf-more few many locations c more there.0, SpeaksOf-more few many locations d more there.1)
