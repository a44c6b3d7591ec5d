-- The printed form of an instruction has its tokens wherever it stands before something that isn't a letter.
use Rattle.std.proofs.Common.{◌≡◌, ℕ, suc, ◌<◌, ◌^◌, List, [], ◌∷◌, ◌++◌, Option, Some, None, Bool, true, false, refl, ap₂, ◌∙◌, arith, ℤ, pos, negsuc}
use Rattle.std.proofs.lemmas.List.{map-append}
use Rattle.std.proofs.lemmas.Str.{IsAscii-append}
use Rattle.std.proofs.lemmas.Fmt.{IsAscii-decimal}
use Rattle.std.specs.Prelude.{codes}
use Rattle.std.specs.Str.{IsAscii}
use Rattle.std.specs.Fmt.{decimal, signed_decimal}
use Rattle.std.specs.Option.{option_or}
use Rattle.fs_litmus_tokens.specs.Tokens.{Tok, Word, Lined, without_lines}
use Rattle.fs_litmus_tokens.specs.declared.word.Class.{Class}
use Rattle.fs_litmus_tokens.specs.declared.token.Mark.{Mark}
use Rattle.fs_litmus_tokens.specs.declared.token.Mark.TheVariants as mark
use Rattle.fs_instr.specs.Rows.{look_up}
use Rattle.fs_instr.specs.Names.{op_of, name_text, register_names, immediate_names, branch_names, single_names, plain_names, acquiring_names, releasing_names, both_names, both_apart_names}
use Rattle.fs_instr.specs.FenceLetters.{letter, letters_text}
use Rattle.fs_instr.specs.Instructions.{parts_of, op_of_instr, operands_of}
use Rattle.fs_instr.specs.OfTable.{IsImmediate, IsOfTable}
use Rattle.fs_instr.specs.Spelled.{Spells, spells}
use Rattle.fs_instr.specs.Writing.{mark_text, part_text, parts_text, space_text, instr_text}
use Rattle.fs_instr.specs.PrintedTokens.{instr_tokens, in_line}
use Rattle.fs_instr.specs.declared.letters.Letters.{Letters}
use Rattle.fs_instr.specs.declared.names.Op.{Op}
use Rattle.fs_instr.specs.declared.operands.Operands.{Operands}
use Rattle.fs_instr.specs.declared.operands.OperandPart.{OperandPart}
use Rattle.fs_instr.specs.declared.operands.OperandPart.TheVariants as part
use Rattle.fs_instr.specs.declared.instr.Instr.{Instr}
use Rattle.fs_instr.specs.declared.instr.Instr.TheVariants as instr
use Rattle.fs_instr.proofs.PrintedWords.{is_word, found_word}
use Rattle.fs_instr.proofs.PrintedParts.{printed, op_word, spelled_word}
use Rattle.fs_instr.proofs.ReadsBack.{reads_back}
use Rattle.fs_litmus.proofs.PrintedBytes.{Opens, nil_ascii, cons_ascii, tested_ascii, word_ascii}

-- ---- operands

-- numbers that are far from the greatest that are written
record AreSmall (o : Operands) : Type 0 where
  rd : o.rd < 2 ^ 32
  first : o.first < 2 ^ 32
  second : o.second < 2 ^ 32
  imm : IsImmediate o.imm
  constant : o.constant < 2 ^ 32
  target : o.target < 2 ^ 32

letter_ascii : (is : Bool) (b : ℕ) → b < 128 → IsAscii (letter is (b ∷ []))
letter_ascii true b h = cons_ascii b [] h nil_ascii
letter_ascii false b h = nil_ascii

letters_ascii : (l : Letters) → IsAscii (letters_text l)
letters_ascii l =
    let i = letter_ascii l.input 105 (omega arith) in
    let o = letter_ascii l.output 111 (omega arith) in
    let r = letter_ascii l.reads 114 (omega arith) in
    let w = letter_ascii l.writes 119 (omega arith) in
    IsAscii-append (letter l.input (codes "i") ++ letter l.output (codes "o") ++ letter l.reads (codes "r")) (letter l.writes (codes "w"))
    (IsAscii-append (letter l.input (codes "i") ++ letter l.output (codes "o")) (letter l.reads (codes "r"))
    (IsAscii-append (letter l.input (codes "i")) (letter l.output (codes "o")) i o) r) w

decimal_ascii : (n : ℕ) → n < 2 ^ 32 → IsAscii (decimal n)
decimal_ascii n small = IsAscii-decimal n (omega arith)

lettered_ascii : (b n : ℕ) → b < 128 → n < 2 ^ 32 → IsAscii (b ∷ decimal n)
lettered_ascii b n h small = cons_ascii b (decimal n) h (decimal_ascii n small)

signed_ascii : (z : ℤ) → IsImmediate z → IsAscii (signed_decimal z)
signed_ascii (pos n) h = decimal_ascii n (omega arith)
signed_ascii (negsuc n) h = lettered_ascii 45 (suc n) (omega arith) (omega arith)

mark_ascii : (m : Mark) → IsAscii (mark_text m)
mark_ascii mark.Comma = tested_ascii (44 ∷ []) refl
mark_ascii mark.OpenParen = tested_ascii (40 ∷ []) refl
mark_ascii mark.CloseParen = tested_ascii (41 ∷ []) refl
mark_ascii _ = nil_ascii

part_ascii : (p : OperandPart) (o : Operands) → AreSmall o → IsAscii (part_text p o)
part_ascii part.Rd o s = lettered_ascii 120 o.rd (omega arith) s.rd
part_ascii part.First o s = lettered_ascii 120 o.first (omega arith) s.first
part_ascii part.Second o s = lettered_ascii 120 o.second (omega arith) s.second
part_ascii part.Zero o s = tested_ascii (120 ∷ 48 ∷ []) refl
part_ascii (part.Sign m) o s = mark_ascii m
part_ascii part.Immediate o s = signed_ascii o.imm s.imm
part_ascii part.Offset o s = signed_ascii o.imm s.imm
part_ascii (part.Below limit) o s = decimal_ascii o.constant s.constant
part_ascii part.Constant o s = decimal_ascii o.constant s.constant
part_ascii part.NoOffset o s = nil_ascii
part_ascii part.Label o s = lettered_ascii 76 o.target (omega arith) s.target
part_ascii part.Before o s = letters_ascii o.before
part_ascii part.After o s = letters_ascii o.after

parts_ascii : (ps : List OperandPart) (o : Operands) → AreSmall o → IsAscii (parts_text ps o)
parts_ascii [] o s = nil_ascii
parts_ascii (p ∷ ps) o s = IsAscii-append (part_text p o) (parts_text ps o) (part_ascii p o s) (parts_ascii ps o s)

space_ascii : (ps : List OperandPart) → IsAscii (space_text ps)
space_ascii [] = nil_ascii
space_ascii (p ∷ ps) = tested_ascii (32 ∷ []) refl

made : (o : Operands) → o.rd < 32 → o.first < 32 → o.second < 32 → IsImmediate o.imm → o.constant < 2 ^ 32 → o.target < 256 → AreSmall o
made o d a b z c t = record { rd = omega arith; first = omega arith; second = omega arith; imm = z; constant = c; target = omega arith }

zero_small : 0 < 32
zero_small = omega arith

small : (i : Instr) → IsOfTable i → AreSmall (operands_of i)
small (instr.Register o d a b) h = made _ h.0 h.1 h.2 (omega arith) (omega arith) (omega arith)
small (instr.Immediate o d a z) h = made _ h.0 h.1 zero_small h.2 (omega arith) (omega arith)
small (instr.Shift o d a n) h = made _ h.0 h.1 zero_small (omega arith) (omega arith) (omega arith)
small (instr.Lui d n) h = made _ h.0 zero_small zero_small (omega arith) (omega arith) (omega arith)
small (instr.Li d n) h = made _ h.0 zero_small zero_small (omega arith) h.1 (omega arith)
small (instr.Lw ann d a z) h = made _ h.1 h.2 zero_small h.3 (omega arith) (omega arith)
small (instr.Sw ann v a z) h = made _ zero_small h.2 h.1 h.3 (omega arith) (omega arith)
small (instr.Lr ann d a) h = made _ h.1 h.2 zero_small (omega arith) (omega arith) (omega arith)
small (instr.Sc ann d v a) h = made _ h.1 h.3 h.2 (omega arith) (omega arith) (omega arith)
small (instr.Amo o ann d v a) h = made _ h.0 h.2 h.1 (omega arith) (omega arith) (omega arith)
small (instr.Branch o a b t) h = made _ zero_small h.0 h.1 (omega arith) (omega arith) h.2
small (instr.Jump t) h = made _ zero_small zero_small zero_small (omega arith) (omega arith) h
small (instr.Fence p s) h = made _ zero_small zero_small zero_small (omega arith) (omega arith) (omega arith)
small instr.FenceTso h = made _ zero_small zero_small zero_small (omega arith) (omega arith) (omega arith)
small instr.FenceI h = made _ zero_small zero_small zero_small (omega arith) (omega arith) (omega arith)

instr_ascii : (i : Instr) → IsOfTable i → IsAscii (instr_text i)
unfolding instr_text
instr_ascii i h =
    let name : IsAscii (name_text (op_of_instr i)) = word_ascii (name_text (op_of_instr i)) (spelled_word (reads_back i h)) in
    IsAscii-append (name_text (op_of_instr i) ++ space_text (parts_of (op_of_instr i))) (parts_text (parts_of (op_of_instr i)) (operands_of i))
    (IsAscii-append (name_text (op_of_instr i)) (space_text (parts_of (op_of_instr i))) name (space_ascii (parts_of (op_of_instr i))))
    (parts_ascii (parts_of (op_of_instr i)) (operands_of i) (small i h))

-- ---- the whole

of_line : (line : ℕ) (ts : List Tok) → without_lines (in_line line ts) ≡ ts
of_line line [] = refl
of_line line (t ∷ ts) = ap₂ (λ (x : Tok) (l : List Tok). x ∷ l) refl (of_line line ts)

pub instr_opens : (i : Instr) → IsOfTable i → Opens (instr_text i) (instr_tokens i)
instr_opens i h = record {
  ascii = instr_ascii i h;
  tokens = λ rest more apart later line. let t = later line in (
    in_line line (instr_tokens i) ++ t.0,
    printed i h rest line t.0 true apart t.1,
    map-append (λ (x : Lined). x.0) (in_line line (instr_tokens i)) t.0 ∙ ap₂ (λ (a b : List Tok). a ++ b) (of_line line (instr_tokens i)) t.2,
  );
}
