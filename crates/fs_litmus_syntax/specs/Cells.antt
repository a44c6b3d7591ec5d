-- The cells of a hart (herd7's format of litmus tests): any number of labels, and then an instruction or nothing.
use Rattle.std.specs.Prelude.{◌≡◌, ℕ, List, [], ◌∷◌, ◌++◌, Bool, true, false, ◌&&◌, Option, Some, None, drop, if◌then◌else◌}
use Rattle.fs_litmus_tokens.specs.Tokens.{Tok, Lined, Word, Sign}
use Rattle.fs_litmus_tokens.specs.declared.token.Mark.TheVariants.{Colon}
use Rattle.fs_instr.specs.Spelled.{Spells, IsUnknown, IsUnsupported}
use Rattle.fs_instr.specs.declared.instr.Instr.{Instr}
use Rattle.fs_kinds.specs.declared.fault.Fault.{Fault}
use Rattle.fs_kinds.specs.declared.fault.Fault.TheVariants.{Syntax, UnknownInstr, BadAnnotation}
use Rattle.fs_kinds.specs.FaultOrder.{IsFirst}
use Rattle.fs_litmus_syntax.specs.Numbered.{is_label, operands}

-- what stands in a cell, with its line: a label; or an instruction, with the label that it names where it is a branch
pub data Item : Type 0 where
  Label : (name : List ℕ) → (line : ℕ) → Item
  Instruction : Instr → (target : Option (List ℕ)) → (line : ℕ) → Item

abbrev pub is_colon : Lined → Bool
is_colon (Sign Colon, line) = true
is_colon _ = false

-- the label at the front, a name or a number and a colon: the word, and its line
abbrev pub front_label : List Lined → Option (List ℕ × ℕ)
front_label ((Word c w, line) ∷ t ∷ ts) = if is_label c && is_colon t then Some (w, line) else None
front_label _ = None

-- the tokens are these labels, and then the rest, which begins with no label
pub data AreLabels : List Lined → List Item → List Lined → Type 0 where
  none : {ts : List Lined} → front_label ts ≡ None → AreLabels ts [] ts
  label : {ts rest : List Lined} {w : List ℕ} {line : ℕ} {xs : List Item} → front_label ts ≡ Some (w, line) → AreLabels (drop 2 ts) xs rest → AreLabels ts (Label w line ∷ xs) rest

-- what stands in a cell
pub data IsCell : List Lined → List Item → Type 0 where
  labels : {ts : List Lined} {xs : List Item} → AreLabels ts xs [] → IsCell ts xs
  instruction : {ts rest : List Lined} {xs ys : List Item} {t : Tok} {line : ℕ} {i : Instr} {target : Option (List ℕ)} → AreLabels ts xs ((t, line) ∷ rest) → Spells (t ∷ operands rest) i target → ys ≡ xs ++ Instruction i target line ∷ [] → IsCell ts ys

-- neither an instruction, nor an lr.w.rl or sc.w.aq, nor begun by a word that is no mnemonic
pub record IsMalformed (ts : List Tok) : Type 0 where
  pub no_instruction : (i : Instr) (target : Option (List ℕ)) → ¬ Spells ts i target
  pub known : ¬ IsUnknown ts
  pub supported : ¬ IsUnsupported ts

-- the fault of a cell: in the line of its first token, or in that of its mnemonic
pub data IsCellFault : List Lined → Fault → Type 0 where
  syntax : {t u : Tok} {line k : ℕ} {ts rest : List Lined} {xs : List Item} → AreLabels ((t, line) ∷ ts) xs ((u, k) ∷ rest) → IsMalformed (u ∷ operands rest) → IsCellFault ((t, line) ∷ ts) (Syntax line)
  unknown : {ts rest : List Lined} {u : Tok} {line : ℕ} {xs : List Item} → AreLabels ts xs ((u, line) ∷ rest) → IsUnknown (u ∷ operands rest) → IsCellFault ts (UnknownInstr line)
  annotation : {ts rest : List Lined} {u : Tok} {line : ℕ} {xs : List Item} → AreLabels ts xs ((u, line) ∷ rest) → IsUnsupported (u ∷ operands rest) → IsCellFault ts (BadAnnotation line)

-- what stands in cells, in order
pub data AreCells : List (List Lined) → List Item → Type 0 where
  empty : AreCells [] []
  next : {c : List Lined} {cs : List (List Lined)} {xs ys zs : List Item} → IsCell c xs → AreCells cs ys → zs ≡ xs ++ ys → AreCells (c ∷ cs) zs

-- a fault of one of the cells
pub data AreFaulty : List (List Lined) → Fault → Type 0 where
  here : {c : List Lined} {cs : List (List Lined)} {f : Fault} → IsCellFault c f → AreFaulty (c ∷ cs) f
  later : {c : List Lined} {cs : List (List Lined)} {f : Fault} → AreFaulty cs f → AreFaulty (c ∷ cs) f

-- ---- what the reader does

-- the labels at the front are added to the listing
pub record AddsLabels (cell : List Lined) (old new : List Item) (rest : List Lined) : Type 0 where
  pub added : List Item
  pub are : AreLabels cell added rest
  pub new_is : new ≡ old ++ added

-- what stands in the cell is added to the listing
pub record AddsItems (cell : List Lined) (old new : List Item) : Type 0 where
  pub added : List Item
  pub is : IsCell cell added
  pub new_is : new ≡ old ++ added

abbrev pub AddsCell : List Lined → List Item → List Item → Option Fault → Type 0
AddsCell cell old new None = AddsItems cell old new
AddsCell cell old new (Some f) = IsCellFault cell f

-- the items are what stands in the cells, or the fault is the first of these
abbrev pub IsListing : List (List Lined) → List Item → Option Fault → Type 0
IsListing cells xs None = AreCells cells xs
IsListing cells xs (Some f) = IsFirst (AreFaulty cells) f
