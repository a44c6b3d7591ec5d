-- Cells of a table.
use Rattle.std.specs.Prelude.{ℕ, ◌-◌, List, ◌++◌, length, codes}
use Rattle.std.specs.List.{repeat}

-- the text with blanks behind it up to this many bytes; a longer text as it is
abbrev pub padded : ℕ → List ℕ → List ℕ
padded most name = name ++ repeat (most - length name) (codes " ")
