-- The codes that the rows of a litmus test mean.
use Rattle.std.specs.Prelude.{◌≡◌, ℕ, ◌<◌, ◌≤◌, List, [], ◌∷◌, Option, Some, None, Result, Ok, Err, length, slice_get}
use Rattle.fs_litmus_tokens.specs.Tokens.{Lined}
use Rattle.fs_instr.specs.declared.instr.Instr.{Instr}
use Rattle.fs_kinds.specs.declared.fault.Fault.{Fault}
use Rattle.fs_litmus_syntax.specs.Cells.{Item, AreCells, AreFaulty}
use Rattle.fs_litmus_syntax.specs.Columns.{column}
use Rattle.fs_litmus_syntax.specs.Labels.{IsCode, IsLabelFault}
use Rattle.fs_kinds.specs.FaultOrder.{IsFirst}
use Rattle.fs_kinds.specs.Limits.{most_instructions}
use Rattle.fs_litmus_syntax.specs.declared.hart.HartCode.{HartCode}
use Rattle.fs_litmus_syntax.specs.declared.hart.HartCode.TheVariants.{Short, Long}

-- the cells of a hart mean its code
pub record IsHart (cells : List (List Lined)) (code : List Instr) : Type 0 where
  pub hart : List Item
  pub are : AreCells cells hart
  pub means : IsCode hart code

-- a fault of a hart: of one of its cells; or of its labels and branches, where all its cells are of the form
pub data IsHartFault (cells : List (List Lined)) : Fault → Type 0 where
  of_cell : {f : Fault} → AreFaulty cells f → IsHartFault cells f
  of_label : {hart : List Item} {f : Fault} → AreCells cells hart → IsLabelFault hart f → IsHartFault cells f

-- the rows of this many cells each, written one after the other, mean a code for each column
pub record AreCodes (columns : ℕ) (cells : List (List Lined)) (codes : List (List Instr)) : Type 0 where
  pub count : length codes ≡ columns
  pub each : (number : ℕ) (code : List Instr) → slice_get codes number ≡ Some code → IsHart (column columns number cells) code

-- a fault of one of the harts
pub data IsFault (columns : ℕ) (cells : List (List Lined)) : Fault → Type 0 where
  fault : {number : ℕ} {f : Fault} → number < columns → IsHartFault (column columns number cells) f → IsFault columns cells f

-- ---- what the reader keeps of codes

-- all of a code within the limit, and the length of a longer one
abbrev pub IsKept : List Instr → HartCode → Type 0
IsKept code (Short kept) = (length code ≤ most_instructions) × (kept.items ≡ code)
IsKept code (Long count) = (most_instructions < length code) × (count ≡ length code)

abbrev pub AreKept : List (List Instr) → List HartCode → Type 0
AreKept [] [] = Unit {0}
AreKept (code ∷ codes) (kept ∷ rest) = IsKept code kept × AreKept codes rest
AreKept _ _ = ⊥

-- the code of one hart is kept, or the fault is the first of the hart's
abbrev pub ReadsHart : List (List Lined) → Result HartCode Fault → Type 0
ReadsHart cells (Ok kept) = (code : List Instr) × IsHart cells code × IsKept code kept
ReadsHart cells (Err f) = IsFirst (IsHartFault cells) f

abbrev pub ReadsListing : List Item → Result HartCode Fault → Type 0
ReadsListing hart (Ok kept) = (code : List Instr) × IsCode hart code × IsKept code kept
ReadsListing hart (Err f) = IsFirst (IsLabelFault hart) f

-- the codes of all harts are kept, or the fault is the first of theirs
abbrev pub AreHarts : ℕ → List (List Lined) → List HartCode → Option Fault → Type 0
AreHarts columns cells kept None = (codes : List (List Instr)) × AreCodes columns cells codes × AreKept codes kept
AreHarts columns cells kept (Some f) = IsFirst (IsFault columns cells) f
