-- The printed form of instructions.
use Rattle.std.specs.Prelude.{ℕ, List, [], ◌∷◌, ◌++◌, codes}
use Rattle.std.specs.Fmt.{decimal, signed_decimal}
use Rattle.fs_litmus_tokens.specs.declared.token.Mark.{Mark}
use Rattle.fs_litmus_tokens.specs.declared.token.Mark.TheVariants.{Comma, OpenParen, CloseParen}
use Rattle.fs_instr.specs.Names.{name_text}
use Rattle.fs_instr.specs.FenceLetters.{letters_text}
use Rattle.fs_instr.specs.Instructions.{parts_of, op_of_instr, operands_of}
use Rattle.fs_instr.specs.declared.operands.Operands.{Operands}
use Rattle.fs_instr.specs.declared.operands.OperandPart.{OperandPart}
use Rattle.fs_instr.specs.declared.operands.OperandPart.TheVariants.{Rd, First, Second, Zero, Sign, Immediate, Offset, Below, Constant, NoOffset, Label, Before, After}
use Rattle.fs_instr.specs.declared.instr.Instr.{Instr}

-- a comma or a parenthesis
abbrev pub mark_text : Mark → List ℕ
mark_text Comma = codes ","
mark_text OpenParen = codes "("
mark_text CloseParen = codes ")"
mark_text _ = []

-- x and the number
abbrev pub register_text : ℕ → List ℕ
register_text r = codes "x" ++ decimal r

abbrev pub part_text : OperandPart → Operands → List ℕ
part_text Rd o = register_text o.rd
part_text First o = register_text o.first
part_text Second o = register_text o.second
part_text Zero o = codes "x0"
part_text (Sign m) o = mark_text m
part_text Immediate o = signed_decimal o.imm
part_text Offset o = signed_decimal o.imm
part_text (Below limit) o = decimal o.constant
part_text Constant o = decimal o.constant
part_text NoOffset o = []
part_text Label o = codes "L" ++ decimal o.target
part_text Before o = letters_text o.before
part_text After o = letters_text o.after

abbrev pub parts_text : List OperandPart → Operands → List ℕ
parts_text [] o = []
parts_text (p ∷ ps) o = part_text p o ++ parts_text ps o

abbrev pub space_text : List OperandPart → List ℕ
space_text [] = []
space_text (p ∷ ps) = codes " "

-- a name, a blank where there are operands, and the operands
abbrev pub row_text : List ℕ → List OperandPart → Operands → List ℕ
row_text name parts o = name ++ space_text parts ++ parts_text parts o

unfoldable pub instr_text : Instr → List ℕ
instr_text i = row_text (name_text (op_of_instr i)) (parts_of (op_of_instr i)) (operands_of i)
