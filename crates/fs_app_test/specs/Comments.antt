-- What the comments of a test file say that its test is expected to be, as `(* expect forbidden *)`.
use Rattle.std.specs.Prelude.{ℕ, ◌==◌, nat_eq, Bool, false, ◌||◌, Option, None, Some, is_some, option_map, option_and_then, List, length, drop, find, codes, if◌then◌else◌}
use Rattle.std.specs.List.{prefix_len, starts_with}
use Rattle.fs_model.specs.Numbers.{numbers_below}
use Rattle.fs_app_test.specs.declared.said.Expected.{Expected}
use Rattle.fs_app_test.specs.declared.said.Expected.TheVariants.{Verdict, Unclear}
use Rattle.fs_app_test.specs.declared.said.Kind.TheVariants as kind

-- a space, a tab or the end of a line
abbrev pub is_gap : ℕ → Bool
is_gap b = b == 32 || (b == 9 || (b == 13 || b == 10))

abbrev pub past_gap : List ℕ → List ℕ
past_gap bytes = drop (prefix_len is_gap bytes) bytes

-- what stands behind this word at the front, and blanks behind it
abbrev pub behind : (text word : List ℕ) → Option (List ℕ)
behind text word = if starts_with nat_eq text word then Some (past_gap (drop (length word) text)) else None

abbrev pub is_end : Option (List ℕ) → Bool
is_end None = false
is_end (Some rest) = starts_with nat_eq rest (codes "*)")

-- this word stands at the front, and then the end of a comment
abbrev pub is_only : (text word : List ℕ) → Bool
is_only text word = is_end (behind text word)

abbrev pub kind_in : List ℕ → Expected
kind_in text =
    if is_only text (codes "forbidden") then Verdict kind.Forbidden
    else (if is_only text (codes "allowed") then Verdict kind.Allowed
    else (if is_only text (codes "vacuous") then Verdict kind.Vacuous else Unclear))

-- what a comment says that begins with the first byte, where it says what is expected
abbrev pub expected_at : List ℕ → Option Expected
expected_at text =
    option_map kind_in (option_and_then (λ rest. behind rest (codes "expect ")) (behind text (codes "(*")))

-- such a comment begins at this offset
abbrev pub says_at : List ℕ → ℕ → Bool
says_at bytes at = is_some (expected_at (drop at bytes))

abbrev pub first_place : List ℕ → Option ℕ
first_place bytes = find (says_at bytes) (numbers_below (length bytes))

-- what the first such comment says
abbrev pub expected_of : List ℕ → Option Expected
expected_of bytes = option_and_then (λ at. expected_at (drop at bytes)) (first_place bytes)
