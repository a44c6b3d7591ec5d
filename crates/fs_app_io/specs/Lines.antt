-- Lines of lists, and what is cut from a line.
use denote.Ref.{Bor}
use Rattle.std.specs.Prelude.{ℕ, ◌==◌, nat_lt, Bool, false, not, Option, Some, None, option_map, List, [], ◌∷◌, length, if◌then◌else◌}
use Rattle.std.specs.List.{after_first, before_first, position_or_len}

-- a line without blanks at its ends says something, unless it is empty or begins with #
abbrev pub says : List ℕ → Bool
says [] = false
says (b ∷ line) = not (b == 35)

-- what stands before the first such byte, and what stands behind it
abbrev pub cut : (byte : ℕ) → List ℕ → Option (List ℕ × List ℕ)
cut byte text =
    if nat_lt (position_or_len (λ b. b == byte) text) (length text)
    then Some (before_first (λ b. b == byte) text, after_first (λ b. b == byte) text) else None

-- the texts of what was cut
abbrev pub pair_now : Option (Bor (List ℕ) × Bor (List ℕ)) → Option (List ℕ × List ℕ)
pair_now = option_map (λ parts. (parts.0.now, parts.1.now))
