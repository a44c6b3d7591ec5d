-- The numbers that words write.
use Rattle.std.specs.Prelude.{ℕ, ◌^◌, List, [], ◌∷◌, Option, Some, None, Bool, true, false, ◌&&◌, nat_lt, nat_eq, ◌==◌, length, drop, codes, if◌then◌else◌}
use Rattle.std.specs.Char.{digit_value}
use Rattle.std.specs.Str.Parse.{digits_value}
use Rattle.std.specs.List.{starts_with}

abbrev pub all_digits : ℕ → List ℕ → Bool
all_digits radix [] = true
all_digits radix (c ∷ cs) = nat_lt (digit_value c) radix && all_digits radix cs

-- one digit or more that write a number below 2^32
abbrev pub is_numeral : ℕ → List ℕ → Bool
is_numeral radix ds = nat_lt 0 (length ds) && (all_digits radix ds && nat_lt (digits_value radix ds) (2 ^ 32))

abbrev pub begins_with_plus : List ℕ → Bool
begins_with_plus [] = false
begins_with_plus (c ∷ cs) = c == 43

unfoldable pub numeral : ℕ → List ℕ → Option ℕ
numeral radix ds = if is_numeral radix ds then Some (digits_value radix ds) else None

-- decimal digits, or 0x and hexadecimal digits; nothing from 2^32 on
unfoldable pub number_of : List ℕ → Option ℕ
number_of word = if starts_with nat_eq word (codes "0x") then numeral 16 (drop 2 word) else numeral 10 word
