-- The lines of a log, each by itself and without the blanks at its ends: which of them is of what kind, and what it
-- says.
use Rattle.std.specs.Prelude.{ℕ, ◌-◌, ◌==◌, ◌^◌, nat_lt, nat_eq, Bool, true, false, not, ◌&&◌, ◌||◌, Option, Some, None, option_map, option_and_then, is_some, List, [], ◌∷◌, codes, drop, length, if◌then◌else◌}
use Rattle.std.specs.Char.{is_ascii_digit, is_ascii_whitespace}
use Rattle.std.specs.List.{list_all, list_any, slice_split, starts_with}
use Rattle.std.specs.Str.{bytes_eq, trim}
use Rattle.std.specs.Str.Parse.{digits_value}
pub use Rattle.fs_app_io.specs.Lines.{cut}
use Rattle.fs_app_states.specs.declared.spelling.Count.{Count}

-- ---- pieces of a line

-- what stands before such a byte at the end
abbrev pub before_last : (byte : ℕ) → List ℕ → Option (List ℕ)
before_last byte [] = None
before_last byte (b ∷ []) = if b == byte then Some [] else None
before_last byte (b ∷ c ∷ bs) = option_map (λ front. b ∷ front) (before_last byte (c ∷ bs))

-- what stands behind such a byte at the start
abbrev pub behind_first : (byte : ℕ) → List ℕ → Option (List ℕ)
behind_first byte [] = None
behind_first byte (b ∷ bs) = if b == byte then Some bs else None

-- some letters without blanks between them
abbrev pub is_word : List ℕ → Bool
is_word text = nat_lt 0 (length text) && not (list_any is_ascii_whitespace text)

abbrev pub is_number : List ℕ → Bool
is_number digits =
    nat_lt 0 (length digits) && (list_all is_ascii_digit digits && nat_lt (digits_value 10 digits) (2 ^ 64))

-- the number that decimal digits write, below 2^64
abbrev pub number_in : List ℕ → Option ℕ
number_in digits = if is_number digits then Some (digits_value 10 digits) else None

-- ---- the first line of a block

abbrev pub begins_blank : List ℕ → Bool
begins_blank [] = true
begins_blank (b ∷ bs) = is_ascii_whitespace b

-- what stands behind the word `Test` with which the line begins
abbrev pub behind_test : List ℕ → Option (List ℕ)
behind_test line =
    if starts_with nat_eq line (codes "Test") && begins_blank (drop 4 line) then Some (drop 4 line) else None

abbrev pub is_kind : List ℕ → Bool
is_kind word =
    bytes_eq word (codes "Allowed") || (bytes_eq word (codes "Required") || bytes_eq word (codes "Forbidden"))

abbrev pub name_in : List ℕ × List ℕ → Option (List ℕ)
name_in parts = if is_word parts.0 && is_kind (trim parts.1) then Some parts.0 else None

-- the name of the test whose block the line begins, such as `SB` for `Test SB Allowed`
abbrev pub title_of : List ℕ → Option (List ℕ)
title_of line = option_and_then (λ rest. option_and_then name_in (cut 32 (trim rest))) (behind_test line)

-- ---- how many states

abbrev pub with_counts : (counted : Bool) → Option ℕ → Option Count
with_counts counted states = option_map (λ n. record { states = n; counted = counted }) states

abbrev pub number_of_states : List ℕ × List ℕ → Option ℕ
number_of_states parts = if bytes_eq (trim parts.1) (codes "states)") then number_in parts.0 else None

-- as `(3 states)` says
abbrev pub in_brackets : List ℕ → Option ℕ
in_brackets text = option_and_then (λ rest. option_and_then number_of_states (cut 32 rest)) (behind_first 40 text)

abbrev pub count_in : List ℕ × List ℕ → Option Count
count_in parts =
    if bytes_eq parts.0 (codes "States") then with_counts false (number_in (trim parts.1))
    else (if bytes_eq parts.0 (codes "Histogram") then with_counts true (in_brackets (trim parts.1)) else None)

-- how many states follow, and whether each has a count: as `States 4` and `Histogram (3 states)` say
abbrev pub count_of : List ℕ → Option Count
count_of line = option_and_then count_in (cut 32 line)

-- ---- a state

-- how often, as `499   :` says, or with `*` for `:`
abbrev pub times_in : List ℕ → Option ℕ
times_in front =
    option_and_then (λ digits. number_in (trim digits)) (if is_some (before_last 58 front) then before_last 58 front else before_last 42 front)

abbrev pub counted_in : List ℕ × List ℕ → Option (ℕ × List ℕ)
counted_in parts = option_map (λ times. (times, trim parts.1)) (times_in parts.0)

-- how often a state was seen, and its items: as `499   :>0:x7=1;` says
abbrev pub times_of : List ℕ → Option (ℕ × List ℕ)
times_of line = option_and_then counted_in (cut 62 line)

abbrev pub pair_in : List ℕ × List ℕ → Option (List ℕ × List ℕ)
pair_in parts = if is_word parts.0 && is_word parts.1 then Some parts else None

-- a place, `=` and a value
abbrev pub item_of : List ℕ → Option (List ℕ × List ℕ)
item_of text = option_and_then pair_in (cut 61 text)

abbrev pub items_in : List (List ℕ) → Option (List (List ℕ × List ℕ))
items_in [] = Some []
items_in (piece ∷ pieces) =
    option_and_then (λ item. option_map (λ items. item ∷ items) (items_in pieces)) (item_of (trim piece))

-- the items of a state, each ended by `;`
abbrev pub items_of : List ℕ → Option (List (List ℕ × List ℕ))
items_of [] = Some []
items_of (b ∷ bs) = option_and_then (λ inner. items_in (slice_split (λ c. c == 59) inner)) (before_last 59 (b ∷ bs))

-- ---- the last line of a block

abbrev pub is_verdict : List ℕ → Bool
is_verdict word = bytes_eq word (codes "Ok") || bytes_eq word (codes "No")

abbrev pub is_looped : Option (List ℕ × List ℕ) → Bool
is_looped None = false
is_looped (Some parts) = bytes_eq parts.0 (codes "Loop") && is_verdict (trim parts.1)

-- whether the condition was met: `Ok` or `No`, or one of these behind `Loop`
abbrev pub is_outcome : List ℕ → Bool
is_outcome line = is_verdict line || is_looped (cut 32 line)
