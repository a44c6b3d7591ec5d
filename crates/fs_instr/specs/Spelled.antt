-- Which tokens spell which instruction, with which label.
use Rattle.std.specs.Prelude.{◌≡◌, ℕ, ◌≤◌, List, [], ◌∷◌, Option, Some, None, Bool, true, false, Ok, Err, ℤ}
use Rattle.fs_litmus_tokens.specs.Words.{is_name}
use Rattle.fs_litmus_tokens.specs.Tokens.{Tok, Word, Sign}
use Rattle.fs_litmus_tokens.specs.declared.word.Class.{Class}
use Rattle.fs_litmus_tokens.specs.declared.token.Mark.{Mark}
use Rattle.fs_litmus_tokens.specs.declared.token.Mark.TheVariants.{OpenParen, Minus}
use Rattle.fs_instr.specs.Names.{op_of}
use Rattle.fs_instr.specs.Registers.{register_of}
use Rattle.fs_litmus_tokens.specs.Numbers.{number_of}
use Rattle.fs_instr.specs.FenceLetters.{letters_of}
use Rattle.fs_instr.specs.Operands.{Filled, blank, immediate_of, below_of, constant_of}
use Rattle.fs_instr.specs.Instructions.{parts_of, instr_of}
use Rattle.fs_instr.specs.Reading.{is_refused, is_alone, is_empty, operands_in, Outcome}
use Rattle.fs_instr.specs.declared.reading.Refused.TheVariants.{Form, Name, Suffix}
use Rattle.fs_instr.specs.declared.letters.Letters.{Letters}
use Rattle.fs_instr.specs.declared.names.Op.{Op}
use Rattle.fs_instr.specs.declared.instr.Instr.{Instr}
use Rattle.fs_instr.specs.declared.operands.OperandPart.{OperandPart}
use Rattle.fs_instr.specs.declared.operands.OperandPart.TheVariants as part

-- these tokens are a number, with a minus or without
pub data IsNumber : List Tok → Bool → ℕ → List Tok → Type 0 where
  plus : {c : Class} {w : List ℕ} {n : ℕ} {rest : List Tok} → number_of w ≡ Some n → IsNumber (Word c w ∷ rest) false n rest
  minus : {c : Class} {w : List ℕ} {n : ℕ} {rest : List Tok} → number_of w ≡ Some n → n ≤ 2147483648 → IsNumber (Sign Minus ∷ Word c w ∷ rest) true n rest

-- the first tokens are this part; what is filled in before and after it, and the tokens after it
pub data IsPart : OperandPart → Filled → List Tok → Filled → List Tok → Type 0 where
  rd : {o : Filled} {c : Class} {w : List ℕ} {r : ℕ} {rest : List Tok} → register_of w ≡ Some r → IsPart part.Rd o (Word c w ∷ rest) (record o { rd = r }) rest
  first : {o : Filled} {c : Class} {w : List ℕ} {r : ℕ} {rest : List Tok} → register_of w ≡ Some r → IsPart part.First o (Word c w ∷ rest) (record o { first = r }) rest
  second : {o : Filled} {c : Class} {w : List ℕ} {r : ℕ} {rest : List Tok} → register_of w ≡ Some r → IsPart part.Second o (Word c w ∷ rest) (record o { second = r }) rest
  x0 : {o : Filled} {c : Class} {w : List ℕ} {rest : List Tok} → register_of w ≡ Some 0 → IsPart part.Zero o (Word c w ∷ rest) o rest
  sign : {o : Filled} {m : Mark} {rest : List Tok} → IsPart (part.Sign m) o (Sign m ∷ rest) o rest
  imm : {o : Filled} {ts rest : List Tok} {m : Bool} {n : ℕ} {z : ℤ} → IsNumber ts m n rest → immediate_of m n ≡ Some z → IsPart part.Immediate o ts (record o { imm = z }) rest
  no_imm : {o : Filled} {rest : List Tok} → IsPart part.Offset o (Sign OpenParen ∷ rest) o (Sign OpenParen ∷ rest)
  offset : {o : Filled} {ts rest : List Tok} {m : Bool} {n : ℕ} {z : ℤ} → IsNumber ts m n rest → immediate_of m n ≡ Some z → IsPart part.Offset o ts (record o { imm = z }) rest
  below : {o : Filled} {limit : ℕ} {ts rest : List Tok} {m : Bool} {n v : ℕ} → IsNumber ts m n rest → below_of limit m n ≡ Some v → IsPart (part.Below limit) o ts (record o { constant = v }) rest
  constant : {o : Filled} {ts rest : List Tok} {m : Bool} {n : ℕ} → IsNumber ts m n rest → IsPart part.Constant o ts (record o { constant = constant_of m n }) rest
  no_offset : {o : Filled} {rest : List Tok} → IsPart part.NoOffset o (Sign OpenParen ∷ rest) o (Sign OpenParen ∷ rest)
  zero_offset : {o : Filled} {ts rest : List Tok} {m : Bool} → IsNumber ts m 0 rest → IsPart part.NoOffset o ts o rest
  label : {o : Filled} {c : Class} {w : List ℕ} {rest : List Tok} → is_name c ≡ true → IsPart part.Label o (Word c w ∷ rest) (record o { label = Some w }) rest
  before : {o : Filled} {c : Class} {w : List ℕ} {l : Letters} {rest : List Tok} → letters_of w ≡ Some l → IsPart part.Before o (Word c w ∷ rest) (record o { before = l }) rest
  after : {o : Filled} {c : Class} {w : List ℕ} {l : Letters} {rest : List Tok} → letters_of w ≡ Some l → IsPart part.After o (Word c w ∷ rest) (record o { after = l }) rest

-- the tokens are these parts in order, and no more
pub data AreParts : List OperandPart → Filled → List Tok → Filled → Type 0 where
  none : {o : Filled} → AreParts [] o [] o
  next : {p : OperandPart} {ps : List OperandPart} {o o1 o2 : Filled} {ts rest : List Tok} → IsPart p o ts o1 rest → AreParts ps o1 rest o2 → AreParts (p ∷ ps) o ts o2

-- the tokens after the name of a row are its operands
abbrev pub HasShape : Op → List Tok → Filled → Type 0
HasShape op ts o = AreParts (parts_of (is_alone op (is_empty ts))) blank ts o

-- the tokens spell the instruction
pub data Spells : List Tok → Instr → Option (List ℕ) → Type 0 where
  spells : {c : Class} {w : List ℕ} {ts : List Tok} {op : Op} {o : Filled} → op_of w ≡ Some op → HasShape op ts o → is_refused op ≡ false → Spells (Word c w ∷ ts) (instr_of (is_alone op (is_empty ts)) (operands_in o)) o.label

-- the tokens are lr.w.rl or sc.w.aq with operands of the right shape
pub data IsUnsupported : List Tok → Type 0 where
  unsupported : {c : Class} {w : List ℕ} {ts : List Tok} {op : Op} {o : Filled} → op_of w ≡ Some op → HasShape op ts o → is_refused op ≡ true → IsUnsupported (Word c w ∷ ts)

-- a word that names no row comes first
pub data IsUnknown : List Tok → Type 0 where
  unknown : {c : Class} {w : List ℕ} {ts : List Tok} → op_of w ≡ None → IsUnknown (Word c w ∷ ts)

-- the outcome of reading these tokens is as they say
abbrev pub Answers : List Tok → Outcome → Type 0
Answers ts (Ok x) = Spells ts x.0 x.1
Answers ts (Err Name) = IsUnknown ts
Answers ts (Err Suffix) = IsUnsupported ts
Answers ts (Err Form) = ((i : Instr) (l : Option (List ℕ)) → ¬ Spells ts i l) × (¬ IsUnknown ts) × (¬ IsUnsupported ts)
