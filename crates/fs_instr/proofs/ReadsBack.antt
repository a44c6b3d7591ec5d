-- Printed tokens spell the instruction, shape by shape.
use Rattle.std.proofs.Common.{◌≡◌, ℕ, suc, ◌<◌, List, [], ◌∷◌, ◌++◌, Some, ℤ, pos, negsuc, true, false, refl, leb, ltb, arith, Bool, ◌||◌, ◌&&◌, ◌^◌, eqb, eqb-true, subst}
use Rattle.std.proofs.lemmas.Bool.Decides.{nat_tests}
use Rattle.fs_litmus_tokens.specs.Tokens.{Tok}
use Rattle.fs_litmus_tokens.specs.Words.{is_name, class_of, keyword_of, is_number, is_digits}
use Rattle.fs_instr.specs.Operands.{Filled, immediate_of, below_of}
use Rattle.fs_instr.specs.Spelled.{plus, minus, IsPart, rd, first, second, sign, imm, offset, below, constant, label, x0, before, after, no_offset, none, next, spells}
use Rattle.fs_instr.specs.PrintedTokens.{ReadsBack, number_tokens}
use Rattle.fs_instr.specs.OfTable.{IsImmediate, HasLetter, IsOfTable}
use Rattle.fs_instr.specs.FenceLetters.{letters_of, letters_text}
use Rattle.fs_instr.specs.Registers.{register_of as register_named, low_x}
use Rattle.fs_instr.specs.declared.letters.Letters.{Letters}
use Rattle.fs_instr.specs.declared.instr.Instr.{Instr}
use Rattle.fs_instr.specs.declared.names.RegOp.{RegOp}
use Rattle.fs_instr.specs.declared.names.ImmOp.{ImmOp}
use Rattle.fs_instr.specs.declared.names.ShiftOp.{ShiftOp}
use Rattle.fs_instr.specs.declared.names.Op.TheVariants as op
use Rattle.fs_instr.specs.Reading.{is_refused}
use Rattle.fs_instr.specs.declared.names.AmoOp.{AmoOp}
use Rattle.fs_instr.specs.declared.names.BranchOp.{BranchOp}
use Rattle.std.specs.List.{list_any}
use Rattle.std.specs.Char.{digit_value}
use Rattle.std.specs.Fmt.{decimal}
use Rattle.std.specs.Str.Parse.{AllDigits}
use Rattle.std.proofs.lemmas.Fmt.{decimal_is_IsNumeral}
use Rattle.fs_instr.specs.declared.operands.OperandPart.TheVariants as part
use Rattle.fs_instr.specs.declared.instr.Instr.TheVariants as instr
use Rattle.fs_instr.specs.Names.{op_of, single_names, branch_names, immediate_names, register_names}
use Rattle.fs_instr.proofs.RoundTrip.{register_name, branch_name, amo_name, immediate_name, shift_name, lw_name, sw_name, lr_name, sc_name, letters_back, ann_of}
use Rattle.fs_instr.proofs.Printed.{register_back, number_back}

register_instr : (o : RegOp) (d a b : ℕ) → d < 32 → a < 32 → b < 32 → ReadsBack (instr.Register o d a b)
register_instr o d a b hd ha hb =
    spells (register_name o) (next (rd (register_back d hd)) (next sign (next (first (register_back a ha)) (next sign (next (second (register_back b hb)) none))))) refl

amo_instr : (o : AmoOp) (p q : Bool) (d v a : ℕ) → d < 32 → v < 32 → a < 32 → ReadsBack (instr.Amo o (ann_of p q) d v a)
amo_instr o p q d v a hd hv ha =
    spells (amo_name o p q) (next (rd (register_back d hd)) (next sign (next (second (register_back v hv)) (next sign (next no_offset (next sign (next (first (register_back a ha)) (next sign none)))))))) refl

-- ---- numbers

imm_part : (o : Filled) (z : ℤ) (rest : List Tok) → IsImmediate z → IsPart part.Immediate o (number_tokens z ++ rest) (record o { imm = z }) rest
imm_part o (pos n) rest h =
    let t : ltb n 2048 ≡ true = grind (arith, nat_tests) in
    let e : immediate_of false n ≡ Some (pos n) = rw t refl in
    imm (plus (number_back n (omega arith))) e
imm_part o (negsuc n) rest h =
    let t : leb (suc n) 2048 ≡ true = grind (arith, nat_tests) in
    let e : immediate_of true (suc n) ≡ Some (negsuc n) = rw t refl in
    imm (minus (number_back (suc n) (omega arith)) (omega arith)) e

offset_part : {o o1 : Filled} {ts rest : List Tok} → IsPart part.Immediate o ts o1 rest → IsPart part.Offset o ts o1 rest
offset_part (imm n z) = offset n z

below_back : (limit n : ℕ) → n < limit → below_of limit false n ≡ Some n
below_back limit n h = let t : ltb n limit ≡ true = grind (arith, nat_tests) in rw t refl

-- ---- the name of a position

dot_or : (b : Bool) (d : Bool) → (b ≡ true → ⊥) → d ≡ false → (b || d) ≡ false
dot_or true d h e = absurd (h refl)
dot_or false d h e = e

no_dot : (ds : List ℕ) → AllDigits 10 ds → list_any (λ c. eqb c 46) ds ≡ false
no_dot [] h = refl
no_dot (c ∷ cs) h = dot_or (eqb c 46) _ (λ e. let low : digit_value 46 < 10 = subst (λ x. digit_value x < 10) (eqb-true c 46 e) h.0 in let bad : 36 < 10 = low in omega arith) (no_dot cs h.1)

and_false : (b : Bool) → (b && false) ≡ false
and_false true = refl
and_false false = refl

no_digits : (ds : List ℕ) → is_digits (76 ∷ ds) ≡ false
no_digits ds = and_false _

-- L and a position is a name
pub name_back : (t : ℕ) → t < 2 ^ 32 → is_name (class_of (76 ∷ decimal t)) ≡ true
unfolding class_of keyword_of is_number
name_back t h = let d = decimal_is_IsNumeral t (omega arith) in let e = no_dot (decimal t) d.0.1 in rw (no_digits (decimal t), e) refl

-- ---- shapes

lw_instr : (p q : Bool) (d a : ℕ) (z : ℤ) → is_refused (op.Lw (ann_of p q)) ≡ false → d < 32 → a < 32 → IsImmediate z → ReadsBack (instr.Lw (ann_of p q) d a z)
lw_instr p q d a z fine hd ha hz =
    spells (lw_name p q) (next (rd (register_back d hd)) (next sign (next (offset_part (imm_part _ z _ hz)) (next sign (next (first (register_back a ha)) (next sign none)))))) fine

sw_instr : (p q : Bool) (v a : ℕ) (z : ℤ) → is_refused (op.Sw (ann_of p q)) ≡ false → v < 32 → a < 32 → IsImmediate z → ReadsBack (instr.Sw (ann_of p q) v a z)
sw_instr p q v a z fine hv ha hz =
    spells (sw_name p q) (next (second (register_back v hv)) (next sign (next (offset_part (imm_part _ z _ hz)) (next sign (next (first (register_back a ha)) (next sign none)))))) fine

li_instr : (d n : ℕ) → d < 32 → n < 2 ^ 32 → ReadsBack (instr.Li d n)
unfolding op_of register_names immediate_names branch_names single_names
li_instr d n hd hn =
    spells refl (next (rd (register_back d hd)) (next sign (next (constant (plus (number_back n hn))) none))) refl

lui_instr : (d n : ℕ) → d < 32 → n < 2 ^ 20 → ReadsBack (instr.Lui d n)
unfolding op_of register_names immediate_names branch_names single_names
lui_instr d n hd hn =
    spells refl (next (rd (register_back d hd)) (next sign (next (below (plus (number_back n (omega arith))) (below_back 1048576 n hn)) none))) refl

branch_instr : (o : BranchOp) (a b t : ℕ) → a < 32 → b < 32 → t < 256 → ReadsBack (instr.Branch o a b t)
branch_instr o a b t ha hb ht =
    spells (branch_name o) (next (first (register_back a ha)) (next sign (next (second (register_back b hb)) (next sign (next (label (name_back t (omega arith))) none))))) refl

imm_instr : (o : ImmOp) (d a : ℕ) (z : ℤ) → d < 32 → a < 32 → IsImmediate z → ReadsBack (instr.Immediate o d a z)
imm_instr o d a z hd ha hz =
    spells (immediate_name o) (next (rd (register_back d hd)) (next sign (next (first (register_back a ha)) (next sign (next (imm_part _ z _ hz) none))))) refl

shift_instr : (o : ShiftOp) (d a n : ℕ) → d < 32 → a < 32 → n < 32 → ReadsBack (instr.Shift o d a n)
shift_instr o d a n hd ha hn =
    spells (shift_name o) (next (rd (register_back d hd)) (next sign (next (first (register_back a ha)) (next sign (next (below (plus (number_back n (omega arith))) (below_back 32 n hn)) none))))) refl

lr_instr : (p q : Bool) (d a : ℕ) → is_refused (op.Lr (ann_of p q)) ≡ false → d < 32 → a < 32 → ReadsBack (instr.Lr (ann_of p q) d a)
lr_instr p q d a fine hd ha =
    spells (lr_name p q) (next (rd (register_back d hd)) (next sign (next no_offset (next sign (next (first (register_back a ha)) (next sign none)))))) fine

sc_instr : (p q : Bool) (d v a : ℕ) → is_refused (op.Sc (ann_of p q)) ≡ false → d < 32 → v < 32 → a < 32 → ReadsBack (instr.Sc (ann_of p q) d v a)
sc_instr p q d v a fine hd hv ha =
    spells (sc_name p q) (next (rd (register_back d hd)) (next sign (next (second (register_back v hv)) (next sign (next no_offset (next sign (next (first (register_back a ha)) (next sign none)))))))) fine

zero_back : register_named (120 ∷ 48 ∷ []) ≡ Some 0
unfolding register_named low_x
zero_back = refl

jump_instr : (t : ℕ) → t < 256 → ReadsBack (instr.Jump t)
unfolding op_of register_names immediate_names branch_names single_names
jump_instr t ht = spells refl (next (x0 zero_back) (next sign (next (label (name_back t (omega arith))) none))) refl

tso_instr : ReadsBack instr.FenceTso
unfolding op_of register_names immediate_names branch_names single_names
tso_instr = spells refl none refl

fence_i_instr : ReadsBack instr.FenceI
unfolding op_of register_names immediate_names branch_names single_names
fence_i_instr = spells refl none refl

letters_part : (l : Letters) → HasLetter l → letters_of (letters_text l) ≡ Some l
letters_part l h = letters_back l.input l.output l.reads l.writes h

fence_instr : (p s : Letters) → HasLetter p → HasLetter s → ReadsBack (instr.Fence p s)
unfolding op_of register_names immediate_names branch_names single_names
fence_instr p s hp hs = spells refl (next (before (letters_part p hp)) (next sign (next (after (letters_part s hs)) none))) refl

pub reads_back : (i : Instr) → IsOfTable i → ReadsBack i
reads_back (instr.Register o d a b) h = register_instr o d a b h.0 h.1 h.2
reads_back (instr.Immediate o d a z) h = imm_instr o d a z h.0 h.1 h.2
reads_back (instr.Shift o d a n) h = shift_instr o d a n h.0 h.1 h.2
reads_back (instr.Lui d n) h = lui_instr d n h.0 h.1
reads_back (instr.Li d n) h = li_instr d n h.0 h.1
reads_back (instr.Lw ann d a z) h = lw_instr ann.acquire ann.release d a z h.0 h.1 h.2 h.3
reads_back (instr.Sw ann v a z) h = sw_instr ann.acquire ann.release v a z h.0 h.1 h.2 h.3
reads_back (instr.Lr ann d a) h = lr_instr ann.acquire ann.release d a h.0 h.1 h.2
reads_back (instr.Sc ann d v a) h = sc_instr ann.acquire ann.release d v a h.0 h.1 h.2 h.3
reads_back (instr.Amo o ann d v a) h = amo_instr o ann.acquire ann.release d v a h.0 h.1 h.2
reads_back (instr.Branch o a b t) h = branch_instr o a b t h.0 h.1 h.2
reads_back (instr.Jump t) h = jump_instr t h
reads_back (instr.Fence p s) h = fence_instr p s h.0 h.1
reads_back instr.FenceTso h = tso_instr
reads_back instr.FenceI h = fence_i_instr
