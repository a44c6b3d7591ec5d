-- The operands of the printed form name no label that is a number.
use Rattle.std.proofs.Common.{◌≡◌, ℕ, suc, ◌<◌, ◌^◌, List, [], ◌∷◌, ◌++◌, map, Bool, true, false, cond, None, refl, sym, ap, ap₂, ◌∙◌, subst, codes, decimal, arith}
use Rattle.std.proofs.lemmas.List.{map-append}
use Rattle.std.specs.Prelude.{ℤ, pos, negsuc}
use Rattle.fs_litmus_tokens.specs.Tokens.{Word, Sign, word}
use Rattle.fs_litmus_tokens.specs.declared.word.Class.{Class}
use Rattle.fs_litmus_tokens.specs.declared.word.Class.TheVariants as class
use Rattle.fs_litmus_tokens.specs.declared.token.Mark.TheVariants.{Minus}
use Rattle.fs_instr.specs.FenceLetters.{letter, letters_text}
use Rattle.fs_instr.specs.Writing.{register_text}
use Rattle.fs_instr.specs.Instructions.{operands_of}
use Rattle.fs_instr.specs.OfTable.{IsImmediate, IsOfTable}
use Rattle.fs_instr.specs.PrintedTokens.{number_tokens, part_tokens, parts_tokens}
use Rattle.fs_instr.specs.declared.instr.Instr.{Instr}
use Rattle.fs_instr.specs.declared.instr.Instr.TheVariants as instr
use Rattle.fs_instr.specs.declared.operands.Operands.{Operands}
use Rattle.fs_instr.specs.declared.operands.OperandPart.{OperandPart}
use Rattle.fs_instr.specs.declared.operands.OperandPart.TheVariants as part
use Rattle.fs_litmus_syntax.specs.Numbered.{begins_digit, numbered, before_last, name_from, name_or, named}
use Rattle.fs_litmus.proofs.PrintedFormClasses.{decimal_class}

-- a word that no digit begins
unnamed : (c : Class) (w : List ℕ) → begins_digit w ≡ false → named (Word c w) ≡ Word c w
unnamed class.Number w e = refl
unnamed class.LocationsWord w e = refl
unnamed class.ExistsWord w e = refl
unnamed class.ForallWord w e = refl
unnamed class.NotWord w e = refl
unnamed class.TrueWord w e = refl
unnamed class.FalseWord w e = refl
unnamed class.Name w e = refl
unnamed class.Other w e = ap (λ b. name_or w (cond b (name_from w (numbered (before_last 102 w)) (numbered (before_last 98 w))) None)) e

one : (w : List ℕ) → begins_digit w ≡ false → map named (word w ∷ []) ≡ word w ∷ []
one w e = ap (λ t. t ∷ []) (unnamed _ w e)

numeric : (c : Class) (w : List ℕ) → c ≡ class.Number → named (Word c w) ≡ Word c w
numeric c w e = subst (λ d. named (Word d w) ≡ Word d w) (sym e) refl

number : (n : ℕ) → n < 2 ^ 32 → named (word (decimal n)) ≡ word (decimal n)
number n small = numeric _ (decimal n) (decimal_class n small)

numbers : (z : ℤ) → IsImmediate z → map named (number_tokens z) ≡ number_tokens z
numbers (pos n) low = ap (λ t. t ∷ []) (number n (omega (arith, low)))
numbers (negsuc n) low = ap (λ t. Sign Minus ∷ t ∷ []) (number (suc n) (omega (arith, low)))

letters : (i o r w : Bool) → begins_digit (letter i (codes "i") ++ letter o (codes "o") ++ letter r (codes "r") ++ letter w (codes "w")) ≡ false
letters true o r w = refl
letters false true r w = refl
letters false false true w = refl
letters false false false true = refl
letters false false false false = refl

-- the numbers among the operands of an instruction of the table
record AreSmall (o : Operands) : Type 0 where
  imm : IsImmediate o.imm
  constant : o.constant < 2 ^ 32

are_small : (i : Instr) → IsOfTable i → AreSmall (operands_of i)
are_small (instr.Register o d a b) h = record { imm = omega arith; constant = omega arith }
are_small (instr.Immediate o d a z) h = record { imm = h.2; constant = omega arith }
are_small (instr.Shift o d a n) h = let low = h.2 in record { imm = omega arith; constant = omega (arith, low) }
are_small (instr.Lui d n) h = let low = h.1 in record { imm = omega arith; constant = omega (arith, low) }
are_small (instr.Li d n) h = record { imm = omega arith; constant = h.1 }
are_small (instr.Lw ann d a z) h = record { imm = h.3; constant = omega arith }
are_small (instr.Sw ann v a z) h = record { imm = h.3; constant = omega arith }
are_small (instr.Lr ann d a) h = record { imm = omega arith; constant = omega arith }
are_small (instr.Sc ann d v a) h = record { imm = omega arith; constant = omega arith }
are_small (instr.Amo o ann d v a) h = record { imm = omega arith; constant = omega arith }
are_small (instr.Branch o a b t) h = record { imm = omega arith; constant = omega arith }
are_small (instr.Jump t) h = record { imm = omega arith; constant = omega arith }
are_small (instr.Fence p s) h = record { imm = omega arith; constant = omega arith }
are_small instr.FenceTso h = record { imm = omega arith; constant = omega arith }
are_small instr.FenceI h = record { imm = omega arith; constant = omega arith }

part_named : (p : OperandPart) (o : Operands) → AreSmall o → map named (part_tokens p o) ≡ part_tokens p o
part_named part.Rd o small = one (register_text o.rd) refl
part_named part.First o small = one (register_text o.first) refl
part_named part.Second o small = one (register_text o.second) refl
part_named part.Zero o small = one (codes "x0") refl
part_named (part.Sign m) o small = refl
part_named part.Immediate o small = numbers o.imm small.imm
part_named part.Offset o small = numbers o.imm small.imm
part_named (part.Below limit) o small = ap (λ t. t ∷ []) (number o.constant small.constant)
part_named part.Constant o small = ap (λ t. t ∷ []) (number o.constant small.constant)
part_named part.NoOffset o small = refl
part_named part.Label o small = one (codes "L" ++ decimal o.target) refl
part_named part.Before o small = one (letters_text o.before) (letters o.before.input o.before.output o.before.reads o.before.writes)
part_named part.After o small = one (letters_text o.after) (letters o.after.input o.after.output o.after.reads o.after.writes)

parts_named : (ps : List OperandPart) (o : Operands) → AreSmall o → map named (parts_tokens ps o) ≡ parts_tokens ps o
parts_named [] o small = refl
parts_named (p ∷ ps) o small =
    map-append named (part_tokens p o) (parts_tokens ps o)
    ∙ ap₂ (λ xs ys. xs ++ ys) (part_named p o small) (parts_named ps o small)

-- they stay as they are
pub operands_stay : (i : Instr) → IsOfTable i → (ps : List OperandPart) → map named (parts_tokens ps (operands_of i)) ≡ parts_tokens ps (operands_of i)
operands_stay i h ps = parts_named ps (operands_of i) (are_small i h)
