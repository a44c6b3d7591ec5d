-- A test file with the same tokens, each in a line of its own (herd7's format of litmus tests).
use Rattle.std.specs.Prelude.{ℕ, ◌+◌, List, [], ◌∷◌, ◌++◌, Bool, codes, if◌then◌else◌}
use Rattle.fs_litmus_tokens.specs.declared.token.Mark.{Mark}
use Rattle.fs_litmus_tokens.specs.declared.token.Mark.TheVariants.{OpenBrace, CloseBrace, Semicolon, Bar, Comma, Colon, Equals, OpenParen, CloseParen, OpenBracket, CloseBracket, Tilde, Minus, Star, Ampersand, Less, Greater, Bang, And, Or}
use Rattle.fs_litmus_tokens.specs.Tokens.{Tok, Word, Sign, Strange, Lined}

abbrev pub mark_text : Mark → List ℕ
mark_text OpenBrace = codes "{"
mark_text CloseBrace = codes "}"
mark_text Semicolon = codes ";"
mark_text Bar = codes "|"
mark_text Comma = codes ","
mark_text Colon = codes ":"
mark_text Equals = codes "="
mark_text OpenParen = codes "("
mark_text CloseParen = codes ")"
mark_text OpenBracket = codes "["
mark_text CloseBracket = codes "]"
mark_text Tilde = codes "~"
mark_text Minus = codes "-"
mark_text Star = codes "*"
mark_text Ampersand = codes "&"
mark_text Less = codes "<"
mark_text Greater = codes ">"
mark_text Bang = codes "!"
mark_text And = codes "/\\"
mark_text Or = codes "\\/"

-- a token as it is written; for a character of none stands one that is of none either
abbrev pub token_text : Tok → List ℕ
token_text (Word c w) = w
token_text (Sign m) = mark_text m
token_text Strange = codes "#"

abbrev pub in_lines : List Lined → List ℕ
in_lines [] = []
in_lines (t ∷ ts) = codes "\n" ++ token_text t.0 ++ in_lines ts

-- the last line: a blank one, or a comment that isn't closed
abbrev pub ending : Bool → List ℕ
ending closed = if closed then codes "\n " else codes "\n(*"

-- a test file with these tokens, of which number n, from 0 on, stands in line n + 2; below them comes one line more
abbrev pub apart : List Lined → Bool → List ℕ
apart ts closed = codes "RISCV T" ++ in_lines ts ++ ending closed

-- the tokens of that file with their lines, where the first of these stands in this one
abbrev pub renumbered : ℕ → List Lined → List Lined
renumbered line [] = []
renumbered line (t ∷ ts) = (t.0, line) ∷ renumbered (line + 1) ts
