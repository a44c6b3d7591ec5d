-- What the bits of a table of earlier numbers say.
use Rattle.std.specs.Prelude.{◌≡◌, ℕ, ◌<◌, ◌==◌, Bool, List, slice_index}
use Rattle.std.specs.Int.{bit_at}
use Rattle.fs_model.specs.Numbers.{stands_before}

abbrev pub has_bit : ℕ → ℕ → Bool
has_bit mask k = bit_at mask k == 1

-- bit a of entry b: a stands before b in the list, for numbers below 64
abbrev pub AreEarlier : List ℕ → (table : List ℕ) → Type 0
AreEarlier listed table = (a b : ℕ) → a < 64 → b < 64 → has_bit (slice_index table b) a ≡ stands_before listed a b
