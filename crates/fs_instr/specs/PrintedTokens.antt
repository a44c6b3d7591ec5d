-- The tokens of the printed form.
use Rattle.std.specs.Prelude.{◌≡◌, false, ℕ, suc, List, [], ◌∷◌, ◌++◌, Option, map, Bool, Some, None, ℤ, pos, negsuc, codes}
use Rattle.std.specs.Fmt.{decimal}
use Rattle.fs_litmus_tokens.specs.Bytes.{is_letter}
use Rattle.fs_litmus_tokens.specs.Tokens.{Tok, Sign, Lined, AreTokens, word}
use Rattle.fs_litmus_tokens.specs.declared.token.Mark.TheVariants.{Minus}
use Rattle.fs_instr.specs.Names.{name_text}
use Rattle.fs_instr.specs.FenceLetters.{letters_text}
use Rattle.fs_instr.specs.Instructions.{parts_of, op_of_instr, operands_of, targeted}
use Rattle.fs_instr.specs.Spelled.{Spells}
use Rattle.fs_instr.specs.Writing.{register_text, instr_text}
use Rattle.fs_instr.specs.Texts.{SpellsText}
use Rattle.fs_instr.specs.declared.operands.Operands.{Operands}
use Rattle.fs_instr.specs.declared.operands.OperandPart.{OperandPart}
use Rattle.fs_instr.specs.declared.operands.OperandPart.TheVariants.{Rd, First, Second, Zero, Immediate, Offset, Below, Constant, NoOffset, Label, Before, After}
use Rattle.fs_instr.specs.declared.operands.OperandPart.TheVariants as part
use Rattle.fs_instr.specs.declared.instr.Instr.{Instr}
use Rattle.fs_instr.specs.declared.instr.Instr.TheVariants as instr

abbrev pub number_tokens : ℤ → List Tok
number_tokens (pos n) = word (decimal n) ∷ []
number_tokens (negsuc n) = Sign Minus ∷ word (decimal (suc n)) ∷ []

abbrev pub part_tokens : OperandPart → Operands → List Tok
part_tokens Rd o = word (register_text o.rd) ∷ []
part_tokens First o = word (register_text o.first) ∷ []
part_tokens Second o = word (register_text o.second) ∷ []
part_tokens Zero o = word (codes "x0") ∷ []
part_tokens (part.Sign m) o = Sign m ∷ []
part_tokens Immediate o = number_tokens o.imm
part_tokens Offset o = number_tokens o.imm
part_tokens (Below limit) o = word (decimal o.constant) ∷ []
part_tokens Constant o = word (decimal o.constant) ∷ []
part_tokens NoOffset o = []
part_tokens Label o = word (codes "L" ++ decimal o.target) ∷ []
part_tokens Before o = word (letters_text o.before) ∷ []
part_tokens After o = word (letters_text o.after) ∷ []

abbrev pub parts_tokens : List OperandPart → Operands → List Tok
parts_tokens [] o = []
parts_tokens (p ∷ ps) o = part_tokens p o ++ parts_tokens ps o

abbrev pub instr_tokens : Instr → List Tok
instr_tokens i = word (name_text (op_of_instr i)) ∷ parts_tokens (parts_of (op_of_instr i)) (operands_of i)

abbrev pub label_of : Instr → Option (List ℕ)
label_of (instr.Branch o a b target) = Some (codes "L" ++ decimal target)
label_of (instr.Jump target) = Some (codes "L" ++ decimal target)
label_of _ = None

-- the printed tokens spell the instruction, with its position as the label
abbrev pub ReadsBack : Instr → Type 0
ReadsBack i = Spells (instr_tokens i) (targeted 0 i) (label_of i)

-- ---- the bytes of the printed form

-- nothing follows, or something that isn't a letter of a word
abbrev pub IsApart : List ℕ → Type 0
IsApart [] = Unit {0}
IsApart (b ∷ bs) = is_letter b ≡ false

-- the tokens, all of one line
abbrev pub in_line : ℕ → List Tok → List Lined
in_line line ts = map (λ t. (t, line)) ts

-- wherever the printed form stands before something that isn't a letter, its tokens are these
abbrev pub HasPrintedTokens : Instr → Type 0
HasPrintedTokens i = (rest : List ℕ) (line : ℕ) (ts : List Lined) (closed : Bool) → IsApart rest → AreTokens rest line ts closed
    → AreTokens (instr_text i ++ rest) line (in_line line (instr_tokens i) ++ ts) closed

-- the printed form spells the instruction, with its position as the label
abbrev pub TextReadsBack : Instr → Type 0
TextReadsBack i = SpellsText (instr_text i) (targeted 0 i) (label_of i)
