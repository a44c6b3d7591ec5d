-- The lines in which the instructions of each hart stand.
use Rattle.std.specs.Prelude.{◌≡◌, ℕ, ◌<◌, List, [], ◌∷◌, length}
use Rattle.std.specs.List.{slice_index_or}
use Rattle.fs_litmus_tokens.specs.Tokens.{Lined}
use Rattle.fs_litmus_syntax.specs.Cells.{Item, Label, Instruction, AreCells}
use Rattle.fs_litmus_syntax.specs.Columns.{column}

-- the lines of the instructions, in their order
abbrev pub lines_of : List Item → List ℕ
lines_of [] = []
lines_of (Label w line ∷ xs) = lines_of xs
lines_of (Instruction i target line ∷ xs) = line ∷ lines_of xs

-- of rows of this many cells each, written one after the other, the lines of the instructions of each column whose
-- cells are of the form
pub record AreLines (columns : ℕ) (cells : List (List Lined)) (lines : List (List ℕ)) : Type 0 where
  pub count : length lines ≡ columns
  pub each : (number : ℕ) (items : List Item) → number < columns → AreCells (column columns number cells) items
      → slice_index_or lines number [] ≡ lines_of items
