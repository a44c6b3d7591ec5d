-- Labels that are numbers, as GNU's assembler has them: a branch names the label 1 that is ahead as 1f.
use Rattle.std.specs.Prelude.{ℕ, List, [], ◌∷◌, Bool, true, false, ◌||◌, ◌==◌, Option, Some, None, option_map, is_some, map, if◌then◌else◌}
use Rattle.std.specs.Char.{is_ascii_digit}
use Rattle.fs_litmus_tokens.specs.Numbers.{number_of}
use Rattle.fs_litmus_tokens.specs.Words.{is_name}
use Rattle.fs_litmus_tokens.specs.Tokens.{Tok, Lined, Word, without_lines}
use Rattle.fs_litmus_tokens.specs.declared.word.Class.{Class}
use Rattle.fs_litmus_tokens.specs.declared.word.Class.TheVariants.{Number, Name, Other}

abbrev pub is_numeric : Class → Bool
is_numeric Number = true
is_numeric _ = false

-- a label is a name or a number
abbrev pub is_label : Class → Bool
is_label c = is_name c || is_numeric c

-- what stands before this byte, where it is the last
abbrev pub before_last : ℕ → List ℕ → Option (List ℕ)
before_last byte [] = None
before_last byte (c ∷ []) = if c == byte then Some [] else None
before_last byte (c ∷ d ∷ ds) = option_map (λ front. c ∷ front) (before_last byte (d ∷ ds))

abbrev pub begins_digit : List ℕ → Bool
begins_digit [] = false
begins_digit (c ∷ cs) = is_ascii_digit c

-- the word, where it is a number
abbrev pub numbered : Option (List ℕ) → Option (List ℕ)
numbered None = None
numbered (Some w) = if is_some (number_of w) then Some w else None

-- what the word names where this number stands before an f at its end, or this one before a b
abbrev pub name_from : List ℕ → Option (List ℕ) → Option (List ℕ) → Option (List ℕ)
name_from w (Some number) back = Some number
name_from w None (Some number) = Some w
name_from w None None = None

-- the label that a word as 1f names: that of the number. A word as 1b goes back, and names itself, which is no label.
abbrev pub label_in : List ℕ → Option (List ℕ)
label_in w = if begins_digit w then name_from w (numbered (before_last 102 w)) (numbered (before_last 98 w)) else None

abbrev pub name_or : List ℕ → Option (List ℕ) → Tok
name_or w None = Word Other w
name_or w (Some name) = Word Name name

-- the token, as a name where it is such a word
abbrev pub named : Tok → Tok
named (Word Other w) = name_or w (label_in w)
named t = t

-- what stands behind a mnemonic
abbrev pub operands : List Lined → List Tok
operands ts = map named (without_lines ts)
