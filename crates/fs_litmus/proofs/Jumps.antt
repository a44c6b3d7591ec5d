-- An instruction that is spelled without a label doesn't jump.
use Rattle.std.proofs.Common.{◌≡◌, ℕ, List, [], ◌∷◌, Option, Some, None, Bool, true, false, refl}
use Rattle.fs_litmus_tokens.specs.Tokens.{Tok}
use Rattle.fs_instr.specs.Operands.{Filled, blank}
use Rattle.fs_instr.specs.Instructions.{parts_of, instr_of, targeted}
use Rattle.fs_instr.specs.Reading.{is_alone, is_empty, operands_in}
use Rattle.fs_instr.specs.Spelled.{IsPart, AreParts, Spells, none, next, label, spells}
use Rattle.fs_instr.specs.declared.names.Op.{Op}
use Rattle.fs_instr.specs.declared.names.Op.TheVariants as op
use Rattle.fs_instr.specs.declared.instr.Instr.{Instr}
use Rattle.fs_instr.specs.declared.instr.Instr.TheVariants as instr
use Rattle.fs_instr.specs.declared.operands.OperandPart.{OperandPart}
use Rattle.fs_instr.specs.declared.operands.OperandPart.TheVariants as part
use Rattle.fs_instr.specs.Instructions.{target_of}

-- what is filled in by a label
part_label : {before after : Filled} {ts rest : List Tok} → IsPart part.Label before ts after rest → after.label ≡ None → ⊥
part_label (label e) h = cc

last_label : {before after : Filled} {ts : List Tok} → AreParts (part.Label ∷ []) before ts after → after.label ≡ None → ⊥
last_label (next p none) h = part_label p h

after_one : {p : OperandPart} {before after : Filled} {ts : List Tok} → AreParts (p ∷ part.Label ∷ []) before ts after → after.label ≡ None → ⊥
after_one (next p rest) h = last_label rest h

after_two : {p q : OperandPart} {before after : Filled} {ts : List Tok} → AreParts (p ∷ q ∷ part.Label ∷ []) before ts after → after.label ≡ None → ⊥
after_two (next p rest) h = after_one rest h

after_three : {p q r : OperandPart} {before after : Filled} {ts : List Tok} → AreParts (p ∷ q ∷ r ∷ part.Label ∷ []) before ts after → after.label ≡ None → ⊥
after_three (next p rest) h = after_two rest h

after_four : {p q r s : OperandPart} {before after : Filled} {ts : List Tok} → AreParts (p ∷ q ∷ r ∷ s ∷ part.Label ∷ []) before ts after → after.label ≡ None → ⊥
after_four (next p rest) h = after_three rest h

no_jump : (o : Op) (alone : Bool) (ts : List Tok) (x : Filled) → AreParts (parts_of (is_alone o alone)) blank ts x → x.label ≡ None → target_of (instr_of (is_alone o alone) (operands_in x)) ≡ None
no_jump (op.Branch o) alone ts x h e = absurd (after_four h e)
no_jump op.Jal alone ts x h e = absurd (after_two h e)
no_jump (op.BranchZero o) alone ts x h e = absurd (after_two h e)
no_jump (op.ZeroBranch o) alone ts x h e = absurd (after_two h e)
no_jump (op.Swapped o) alone ts x h e = absurd (after_four h e)
no_jump op.J alone ts x h e = absurd (last_label h e)
no_jump op.Fence true ts x h e = refl
no_jump op.Fence false ts x h e = refl
no_jump (op.Register o) alone ts x h e = refl
no_jump (op.Immediate o) alone ts x h e = refl
no_jump (op.Shift o) alone ts x h e = refl
no_jump op.Lui alone ts x h e = refl
no_jump op.Li alone ts x h e = refl
no_jump (op.Lw ann) alone ts x h e = refl
no_jump (op.Sw ann) alone ts x h e = refl
no_jump (op.Lr a) alone ts x h e = refl
no_jump (op.Sc a) alone ts x h e = refl
no_jump (op.Amo o a) alone ts x h e = refl
no_jump op.FenceTso alone ts x h e = refl
no_jump op.FenceI alone ts x h e = refl
no_jump op.Nop alone ts x h e = refl
no_jump op.Mv alone ts x h e = refl
no_jump op.Seqz alone ts x h e = refl
no_jump op.Not alone ts x h e = refl
no_jump (op.OfZero o) alone ts x h e = refl
no_jump (op.WithZero o) alone ts x h e = refl
no_jump op.FenceAll alone ts x h e = refl

pub spelled_no_jump : {ts : List Tok} {i : Instr} {l : Option (List ℕ)} → Spells ts i l → l ≡ None → target_of i ≡ None
spelled_no_jump (spells {ts = ts} {op = o} {o = x} named shape fine) e = no_jump o (is_empty ts) ts x shape e

pub targeted_jump : (p t : ℕ) (i : Instr) → target_of (targeted p i) ≡ Some t → p ≡ t
targeted_jump p t (instr.Branch o a b q) e = cc
targeted_jump p t (instr.Jump q) e = cc
targeted_jump p t _ e = absurd (cc)
