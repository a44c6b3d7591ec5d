-- The code that a hart's cells mean goes forward.
use Rattle.std.proofs.Common.{◌≡◌, ℕ, zero, suc, ◌+◌, ◌<◌, ◌≤◌, List, [], ◌∷◌, ◌++◌, length, Option, Some, None, refl, sym, ap, subst, arith}
use Rattle.std.specs.Prelude.{option_and_then, slice_get}
use Rattle.fs_litmus_tokens.specs.Tokens.{Tok, Lined}
use Rattle.fs_instr.specs.Spelled.{Spells}
use Rattle.fs_instr.specs.Instructions.{targeted}
use Rattle.fs_instr.specs.declared.instr.Instr.{Instr}
use Rattle.fs_litmus_syntax.specs.Cells.{Item, Label, Instruction, AreLabels, none as no_labels, label as one_label, IsCell, labels as only_labels, instruction as with_instruction, AreCells, empty, next}
use Rattle.fs_litmus_syntax.specs.Labels.{StandsAt, here, past_label, past_instruction, AreResolved, none, label, plain, branch, instruction_count}
use Rattle.fs_instr.specs.Instructions.{target_of}
use Rattle.fs_model.specs.Test.{GoesForward}
use Rattle.fs_litmus.proofs.Jumps.{spelled_no_jump, targeted_jump}

-- each instruction is spelled by some tokens
pub data AreSpelled : List Item → Type 0 where
  nothing : AreSpelled []
  past : {w : List ℕ} {k : ℕ} {xs : List Item} → AreSpelled xs → AreSpelled (Label w k ∷ xs)
  spelled : {ts : List Tok} {i : Instr} {l : Option (List ℕ)} {k : ℕ} {xs : List Item} → Spells ts i l → AreSpelled xs → AreSpelled (Instruction i l k ∷ xs)

spelled-append : {xs ys : List Item} → AreSpelled xs → AreSpelled ys → AreSpelled (xs ++ ys)
spelled-append nothing h = h
spelled-append (past k) h = past (spelled-append k h)
spelled-append (spelled s k) h = spelled s (spelled-append k h)

labels_spelled : {ts rest : List Lined} {xs : List Item} → AreLabels ts xs rest → AreSpelled xs
labels_spelled (no_labels e) = nothing
labels_spelled (one_label e h) = past (labels_spelled h)

cell_spelled : {ts : List Lined} {xs : List Item} → IsCell ts xs → AreSpelled xs
cell_spelled (only_labels h) = labels_spelled h
cell_spelled (with_instruction {ys = ys} h s e) = subst AreSpelled (sym e) (spelled-append (labels_spelled h) (spelled s nothing))

pub cells_spelled : {cs : List (List Lined)} {xs : List Item} → AreCells cs xs → AreSpelled xs
cells_spelled empty = nothing
cells_spelled (next h k e) = subst AreSpelled (sym e) (spelled-append (cell_spelled h) (cells_spelled k))

-- a label stands within the code
pub stands_within : {w : List ℕ} {p line : ℕ} {xs : List Item} → StandsAt w p line xs → p ≤ instruction_count xs
stands_within here = omega arith
stands_within (past_label h) = stands_within h
stands_within (past_instruction h) = let k = stands_within h in omega (arith, k)

pub resolved_length : {hart xs : List Item} {n : ℕ} {code : List Instr} → AreResolved hart n xs code → length code ≡ instruction_count xs
resolved_length none = refl
resolved_length (label h) = resolved_length h
resolved_length (plain h) = ap suc (resolved_length h)
resolved_length (branch s l h) = ap suc (resolved_length h)

-- the instruction at this place, n of the hart's before the first, goes to one after it, and at most to the end
abbrev Ahead : List Item → ℕ → ℕ → List Instr → Type 0
Ahead hart n at code = (target : ℕ) → option_and_then target_of (slice_get code at) ≡ Some target → (n + at < target) × (target ≤ instruction_count hart)

first_of : (i : Instr) (code : List Instr) (target : ℕ) → option_and_then target_of (slice_get (i ∷ code) 0) ≡ Some target → target_of i ≡ Some target
first_of i code target e = e

rest_of : (i : Instr) (code : List Instr) (at target : ℕ) → option_and_then target_of (slice_get (i ∷ code) (suc at)) ≡ Some target → option_and_then target_of (slice_get code at) ≡ Some target
rest_of i code at target e = e

none_of : (at target : ℕ) → option_and_then target_of (slice_get {X = Instr} [] at) ≡ Some target → ⊥
none_of at target e = cc

one_further : (n at target most : ℕ) → (suc n + at < target) × (target ≤ most) → (n + suc at < target) × (target ≤ most)
one_further n at target most h = let low = h.0 in (omega (arith, low), h.1)

none_jumps : (i : Instr) (target : ℕ) → target_of i ≡ None → target_of i ≡ Some target → ⊥
none_jumps i target e f = cc

ahead : {hart xs : List Item} {n : ℕ} {code : List Instr} → AreSpelled xs → AreResolved hart n xs code → (at : ℕ) → Ahead hart n at code
ahead s none at target e = absurd (none_of at target e)
ahead (past s) (label h) at target e = ahead s h at target e
ahead (spelled {i = i} sp s) (plain {n = n} {code = code} h) zero target e = absurd (none_jumps i target (spelled_no_jump sp refl) (first_of i code target e))
ahead {hart} (spelled sp s) (plain {n = n} {i = i} {code = code} h) (suc at) target e = one_further n at target (instruction_count hart) (ahead s h at target (rest_of i code at target e))
ahead {hart} (spelled sp s) (branch {n = n} {p = p} {i = i} {code = code} st l h) zero target e =
    let same = targeted_jump p target i (first_of (targeted p i) code target e) in
    let within = stands_within st in
    (omega (arith, same, l), omega (arith, same, within))
ahead {hart} (spelled sp s) (branch {n = n} {p = p} {i = i} {code = code} st l h) (suc at) target e = one_further n at target (instruction_count hart) (ahead s h at target (rest_of (targeted p i) code at target e))

pub goes_forward : {cells : List (List Lined)} {hart : List Item} {code : List Instr} → AreCells cells hart → AreResolved hart 0 hart code → GoesForward code
goes_forward {hart = hart} {code = code} cs h at target e =
    let x = ahead (cells_spelled cs) h at target e in
    let low = x.0 in
    let high = x.1 in
    let len = resolved_length h in
    (omega (arith, low), omega (arith, high, len))
