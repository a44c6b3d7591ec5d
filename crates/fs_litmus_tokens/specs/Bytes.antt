-- Kinds of bytes, and comments.
use Rattle.std.specs.Prelude.{ℕ, ◌+◌, ◌-◌, zero, suc, List, [], ◌∷◌, Option, Some, None, Bool, true, false, ◌||◌, ◌&&◌, ◌==◌, if◌then◌else◌}
use Rattle.std.specs.Char.{is_ascii_alphanumeric}

-- words are made of letters, digits, _ and .
abbrev pub is_letter : ℕ → Bool
is_letter b = is_ascii_alphanumeric b || (b == 95 || b == 46)

-- a space, a tab or CR
abbrev pub is_blank : ℕ → Bool
is_blank b = b == 32 || (b == 9 || b == 13)

-- the bytes begin with this byte
abbrev pub begins : ℕ → List ℕ → Bool
begins c [] = false
begins c (b ∷ bs) = b == c

abbrev pub tail : List ℕ → List ℕ
tail [] = []
tail (b ∷ bs) = bs

-- what stands behind a *): it closes the comment, or the last of those that are open inside it
abbrev pub closing : ℕ → List ℕ → ℕ → Option (List ℕ × ℕ) → Option (List ℕ × ℕ)
closing zero rest line later = Some (rest, line)
closing (suc inner) rest line later = later

-- after the *) that closes a comment, and its line, where the bytes begin in this line. So many comments are open inside
-- it; and the first byte is the second of a (* or *), or isn't.
abbrev pub comment_from : ℕ → Bool → List ℕ → ℕ → Option (List ℕ × ℕ)
comment_from inner second [] line = None
comment_from inner true (b ∷ bs) line = comment_from inner false bs line
comment_from inner false (b ∷ bs) line =
    if b == 42 && begins 41 bs then closing inner (tail bs) line (comment_from (inner - 1) true bs line)
    else (if b == 40 && begins 42 bs then comment_from (inner + 1) true bs line
    else comment_from inner false bs (if b == 10 then line + 1 else line))

-- after the comment in which the bytes begin; comments nest
abbrev pub comment_end : List ℕ → ℕ → Option (List ℕ × ℕ)
comment_end bs line = comment_from 0 false bs line
