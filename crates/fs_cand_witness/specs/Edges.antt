-- A relation on numbers as rows of bits.
use Rattle.std.specs.Prelude.{ℕ, ◌==◌, Bool, List, slice_index}
use Rattle.std.specs.Int.{bit_at}

-- a word as a set of numbers
abbrev pub has_bit : ℕ → ℕ → Bool
has_bit word b = bit_at word b == 1

-- bit b of row a is set
abbrev pub has_edge : List ℕ → ℕ → ℕ → Bool
has_edge rows a b = has_bit (slice_index rows a) b
