-- Labels and branches of a hart.
use Rattle.std.specs.Prelude.{ℕ, ◌+◌, ◌<◌, ◌≤◌, zero, suc, List, [], ◌∷◌, Option, Some, None, option_map, Bool, false, nat_lt, if◌then◌else◌}
use Rattle.std.specs.Str.{bytes_eq}
use Rattle.fs_instr.specs.Instructions.{targeted}
use Rattle.fs_instr.specs.declared.instr.Instr.{Instr}
use Rattle.fs_kinds.specs.declared.fault.Fault.{Fault}
use Rattle.fs_kinds.specs.declared.fault.Fault.TheVariants.{BadLabel}
use Rattle.fs_litmus_syntax.specs.Cells.{Item, Label, Instruction}

-- The label w stands in this line at position p: p instructions stand before it.
pub data StandsAt (w : List ℕ) : ℕ → ℕ → List Item → Type 0 where
  here : {line : ℕ} {xs : List Item} → StandsAt w zero line (Label w line ∷ xs)
  past_label : {p line k : ℕ} {v : List ℕ} {xs : List Item} → StandsAt w p line xs → StandsAt w p line (Label v k ∷ xs)
  past_instruction : {p line k : ℕ} {i : Instr} {target : Option (List ℕ)} {xs : List Item} → StandsAt w p line xs → StandsAt w (suc p) line (Instruction i target k ∷ xs)

-- Instruction number n, from 0 on, is a branch to the label w, and stands in this line.
pub data IsBranch (w : List ℕ) : ℕ → ℕ → List Item → Type 0 where
  this : {line : ℕ} {i : Instr} {xs : List Item} → IsBranch w zero line (Instruction i (Some w) line ∷ xs)
  after_label : {n line k : ℕ} {v : List ℕ} {xs : List Item} → IsBranch w n line xs → IsBranch w n line (Label v k ∷ xs)
  after_instruction : {n line k : ℕ} {i : Instr} {target : Option (List ℕ)} {xs : List Item} → IsBranch w n line xs → IsBranch w (suc n) line (Instruction i target k ∷ xs)

-- a label a second time, in the line of the second
pub data IsTwice : List Item → Fault → Type 0 where
  again : {w : List ℕ} {p k line : ℕ} {xs : List Item} → StandsAt w p line xs → IsTwice (Label w k ∷ xs) (BadLabel line)
  later : {x : Item} {xs : List Item} {f : Fault} → IsTwice xs f → IsTwice (x ∷ xs) f

-- a branch among these items to a label that the hart doesn't have, or to one at or before the branch
pub data IsStray (hart : List Item) (xs : List Item) : Fault → Type 0 where
  missing : {w : List ℕ} {n line : ℕ} → IsBranch w n line xs → ((p k : ℕ) → ¬ StandsAt w p k hart) → IsStray hart xs (BadLabel line)
  behind : {w : List ℕ} {n line p k : ℕ} → IsBranch w n line xs → StandsAt w p k hart → p ≤ n → IsStray hart xs (BadLabel line)

-- a fault of the labels and branches of a hart
pub data IsLabelFault (hart : List Item) : Fault → Type 0 where
  twice : {f : Fault} → IsTwice hart f → IsLabelFault hart f
  stray : {f : Fault} → IsStray hart hart f → IsLabelFault hart f

-- From instruction number n on the code is this: each branch goes to the position of its label, which is ahead of it.
pub data AreResolved (hart : List Item) : ℕ → List Item → List Instr → Type 0 where
  none : {n : ℕ} → AreResolved hart n [] []
  label : {n line : ℕ} {w : List ℕ} {xs : List Item} {code : List Instr} → AreResolved hart n xs code → AreResolved hart n (Label w line ∷ xs) code
  plain : {n line : ℕ} {i : Instr} {xs : List Item} {code : List Instr} → AreResolved hart (suc n) xs code → AreResolved hart n (Instruction i None line ∷ xs) (i ∷ code)
  branch : {n p line k : ℕ} {i : Instr} {w : List ℕ} {xs : List Item} {code : List Instr} → StandsAt w p k hart → n < p → AreResolved hart (suc n) xs code → AreResolved hart n (Instruction i (Some w) line ∷ xs) (targeted p i ∷ code)

-- the code of a hart
pub record IsCode (hart : List Item) (code : List Instr) : Type 0 where
  pub once : (f : Fault) → ¬ IsTwice hart f
  pub resolved : AreResolved hart 0 hart code

-- ---- the same, computed

abbrev pub instruction_count : List Item → ℕ
instruction_count [] = 0
instruction_count (Label w line ∷ xs) = instruction_count xs
instruction_count (Instruction i target line ∷ xs) = suc (instruction_count xs)

-- where the label stands first
abbrev pub position : List ℕ → List Item → Option ℕ
position w [] = None
position w (Label v line ∷ xs) = if bytes_eq w v then Some 0 else position w xs
position w (Instruction i target line ∷ xs) = option_map (λ p. suc p) (position w xs)

-- the position is that of a label ahead of instruction number n
abbrev pub is_ahead : ℕ → Option ℕ → Bool
is_ahead n None = false
is_ahead n (Some p) = nat_lt n p

-- the fault of an item after this many instructions, where this says where labels stand
abbrev pub stray_of : (List ℕ → Option ℕ) → ℕ → Item → Option Fault
stray_of where_is n (Label w line) = None
stray_of where_is n (Instruction i None line) = None
stray_of where_is n (Instruction i (Some w) line) = if is_ahead n (where_is w) then None else Some (BadLabel line)

abbrev pub number_after : ℕ → Item → ℕ
number_after n (Label w line) = n
number_after n (Instruction i target line) = n + 1

abbrev pub with_position : Instr → Option ℕ → Instr
with_position i None = i
with_position i (Some p) = targeted p i

abbrev pub with_label : List Item → Instr → Option (List ℕ) → Instr
with_label hart i None = i
with_label hart i (Some w) = with_position i (position w hart)

abbrev pub resolved : List Item → List Item → List Instr
resolved hart [] = []
resolved hart (Label w line ∷ xs) = resolved hart xs
resolved hart (Instruction i target line ∷ xs) = with_label hart i target ∷ resolved hart xs
