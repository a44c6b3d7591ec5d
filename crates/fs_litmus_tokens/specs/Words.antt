-- Words, and what they may be read as (herd7's format of litmus tests).
use Rattle.std.specs.Prelude.{ℕ, List, [], ◌∷◌, Option, Some, None, Bool, true, false, not, ◌||◌, ◌&&◌, ◌==◌, nat_eq, length, drop, codes, if◌then◌else◌}
use Rattle.std.specs.Char.{is_ascii_alphabetic, is_ascii_digit, is_ascii_hexdigit}
use Rattle.std.specs.List.{list_any, list_all, starts_with}
use Rattle.std.specs.Str.{bytes_eq}
use Rattle.fs_litmus_tokens.specs.declared.word.Class.{Class}
use Rattle.fs_litmus_tokens.specs.declared.word.Class.TheVariants.{Number, LocationsWord, ExistsWord, ForallWord, NotWord, TrueWord, FalseWord, Name, Other}

-- a word of this class is a name: it may stand for a location or a label (numbers and the words of class Other are
-- none)
abbrev pub is_name : Class → Bool
is_name Number = false
is_name Other = false
is_name _ = true

abbrev pub is_digits : List ℕ → Bool
is_digits w = not (length w == 0) && list_all is_ascii_digit w

abbrev pub is_hexadecimal : List ℕ → Bool
is_hexadecimal w = not (length w == 0) && list_all is_ascii_hexdigit w

-- decimal digits, or 0x and hexadecimal digits
unfoldable pub is_number : List ℕ → Bool
is_number w = if starts_with nat_eq w (codes "0x") then is_hexadecimal (drop 2 w) else is_digits w

abbrev pub begins_name : List ℕ → Bool
begins_name [] = false
begins_name (c ∷ cs) = is_ascii_alphabetic c || c == 95

abbrev pub has_dot : List ℕ → Bool
has_dot w = list_any (λ c. c == 46) w

-- the class of the first of these words that is the word
abbrev pub classed : List (List ℕ × Class) → List ℕ → Option Class
classed [] word = None
classed (row ∷ rows) word = if bytes_eq word row.0 then Some row.1 else classed rows word

unfoldable pub keyword_of : List ℕ → Option Class
keyword_of word = classed (
    (codes "locations", LocationsWord) ∷
    (codes "exists", ExistsWord) ∷
    (codes "forall", ForallWord) ∷
    (codes "not", NotWord) ∷
    (codes "true", TrueWord) ∷
    (codes "false", FalseWord) ∷
    []) word

abbrev pub plain_class : List ℕ → Class
plain_class w = if is_number w then Number else (if begins_name w && not (has_dot w) then Name else Other)

abbrev pub class_or : Option Class → Class → Class
class_or None plain = plain
class_or (Some class) plain = class

-- what a word may be read as
unfoldable pub class_of : List ℕ → Class
class_of w = class_or (keyword_of w) (plain_class w)
