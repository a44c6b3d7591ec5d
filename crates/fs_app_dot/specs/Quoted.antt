-- Texts between the quotes of DOT: no byte of one ends it, and each stands for itself.
use Rattle.std.specs.Prelude.{ℕ, ◌==◌, nat_le, nat_lt, ◌&&◌, List, [], ◌∷◌, codes, length, if◌then◌else◌}
use Rattle.std.specs.List.{flat_map}

-- a quote, a backslash, an ampersand (with which the name of a character begins) and a line's end
abbrev pub mark : ℕ → List ℕ
mark b =
    if b == 34 then codes "\\\""
    else (if b == 92 then codes "\\\\" else (if b == 38 then codes "&amp;" else (if b == 10 then codes "\\n" else [])))

-- any other byte; what can't be shown is a question mark
abbrev pub shown_byte : ℕ → ℕ
shown_byte b = if nat_le 32 b && nat_lt b 127 then b else 63

abbrev pub quoted_byte : ℕ → List ℕ
quoted_byte b = if length (mark b) == 0 then shown_byte b ∷ [] else mark b

abbrev pub quoted : List ℕ → List ℕ
quoted text = flat_map quoted_byte text
