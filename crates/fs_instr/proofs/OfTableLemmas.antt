-- What is spelled is an instruction of the table.
use Rattle.std.proofs.Common.{◌≡◌, ℕ, ◌<◌, ◌^◌, List, [], ◌∷◌, Option, Some, None, Bool, true, false, ◌&&◌, cond, refl, subst, ltb, leb, arith, ℤ, pos, suc, zero, Result, Ok, Err, ◌||◌, lit≤}
use Rattle.std.specs.Prelude.{IfOk, neg_ℤ}
use Rattle.std.specs.Str.Parse.{digits_value}
use Rattle.std.proofs.lemmas.Bool.Decides.{nat_tests}
use Rattle.std.specs.Str.{bytes_eq}
use Rattle.fs_litmus_tokens.specs.Tokens.{Tok}
use Rattle.fs_litmus_tokens.specs.Numbers.{number_of, numeral}
use Rattle.fs_instr.specs.Rows.{look_up}
use Rattle.std.specs.Option.{option_or}
use Rattle.fs_instr.specs.Registers.{register_of, low_x, middle_x, high_x, first_names, arguments, last_names}
use Rattle.fs_instr.specs.FenceLetters.{lettered, letters_of, letters_rows, letters_text}
use Rattle.fs_instr.specs.Operands.{Filled, blank, immediate_of, below_of, constant_of}
use Rattle.fs_instr.specs.Spelled.{IsNumber, plus, minus, IsPart, rd, first, second, x0, sign, imm, no_imm, offset, below, constant, no_offset, zero_offset, label, before, after, AreParts, none, next, Spells, spells, Answers}
use Rattle.fs_instr.specs.Instructions.{parts_of, instr_of}
use Rattle.fs_instr.specs.Reading.{is_refused, is_alone, is_empty, operands_in, outcome_of}
use Rattle.fs_instr.specs.OfTable.{IsImmediate, HasLetter, IsOfTable}
use Rattle.fs_instr.specs.declared.letters.Letters.{Letters}
use Rattle.fs_instr.specs.declared.names.Op.{Op}
use Rattle.fs_instr.specs.declared.names.ShiftOp.{ShiftOp}
use Rattle.fs_instr.specs.declared.names.Op.TheVariants as op
use Rattle.fs_instr.specs.declared.operands.OperandPart.{OperandPart}
use Rattle.fs_instr.specs.declared.operands.OperandPart.TheVariants as part
use Rattle.fs_instr.specs.declared.instr.Instr.{Instr}
use Rattle.fs_instr.specs.declared.reading.Parsed.{Parsed}
use Rattle.fs_instr.specs.declared.reading.Refused.{Refused}
use Rattle.fs_instr.proofs.Spelling.{is_refused_alone}

-- ---- what is found in a table has what each row has

found : {A : Type 0} (P : A → Type 0) (c : Bool) (a b : A) (o : Option A) → P a → (o ≡ Some b → P b) → cond c (Some a) o ≡ Some b → P b
found P true a b o here later e = let same : a ≡ b = cc in subst P same here
found P false a b o here later e = later e

abbrev rows_below : List (List ℕ × ℕ) → Bool
rows_below [] = true
rows_below (row ∷ rows) = ltb row.1 32 && rows_below rows

both_true : (a b : Bool) → (a && b) ≡ true → (a ≡ true) × (b ≡ true)
both_true true b e = (refl, e)
both_true false b e = absurd (cc)

test_below : (n : ℕ) → ltb n 32 ≡ true → n < 32
test_below n e = grind (arith, nat_tests)

numbered_below : (rows : List (List ℕ × ℕ)) (w : List ℕ) (r : ℕ) → rows_below rows ≡ true → look_up rows w ≡ Some r → r < 32
numbered_below [] w r t e = absurd (cc)
numbered_below (row ∷ rows) w r t e =
    let both = both_true (ltb row.1 32) (rows_below rows) t in
    found (λ n. n < 32) (bytes_eq w row.0) row.1 r (look_up rows w) (test_below row.1 both.0) (λ k. numbered_below rows w r both.1 k) e

either_below : (a b : Option ℕ) (r : ℕ) → (a ≡ Some r → r < 32) → (b ≡ Some r → r < 32) → option_or a b ≡ Some r → r < 32
either_below None b r one two e = two e
either_below (Some n) b r one two e = one e

pub register_below : (w : List ℕ) (r : ℕ) → register_of w ≡ Some r → r < 32
unfolding register_of low_x middle_x high_x first_names arguments last_names
register_below w r e =
    either_below (look_up low_x w) _ r (numbered_below low_x w r refl)
    (either_below (look_up middle_x w) _ r (numbered_below middle_x w r refl)
    (either_below (look_up high_x w) _ r (numbered_below high_x w r refl)
    (either_below (look_up first_names w) _ r (numbered_below first_names w r refl)
    (either_below (look_up arguments w) _ r (numbered_below arguments w r refl)
    (numbered_below last_names w r refl))))) e

abbrev all_have_letters : List Letters → Bool
all_have_letters [] = true
all_have_letters (l ∷ ls) = (l.input || (l.output || (l.reads || l.writes))) && all_have_letters ls

lettered_have : (ls : List Letters) (w : List ℕ) (l : Letters) → all_have_letters ls ≡ true → lettered ls w ≡ Some l → HasLetter l
lettered_have [] w l h e = absurd (cc)
lettered_have (k ∷ ls) w l h e =
    let both = both_true _ (all_have_letters ls) h in
    found HasLetter (bytes_eq w (letters_text k)) k l (lettered ls w) both.0 (λ later. lettered_have ls w l both.1 later) e

pub letters_have : (w : List ℕ) (l : Letters) → letters_of w ≡ Some l → HasLetter l
unfolding letters_rows
letters_have w l e = lettered_have letters_rows w l refl e

-- ---- numbers

-- what a test lets through
passed : {A : Type 0} (c : Bool) (a b : A) → cond c (Some a) None ≡ Some b → (c ≡ true) × (a ≡ b)
passed true a b e = (refl, cc)
passed false a b e = absurd (cc)

below_word : (n : ℕ) → ltb n (2 ^ 32) ≡ true → n < 2 ^ 32
below_word n e = grind (arith, nat_tests)

numeral_below : (radix : ℕ) (ds : List ℕ) (n : ℕ) → numeral radix ds ≡ Some n → n < 2 ^ 32
unfolding numeral
numeral_below radix ds n e =
    let t = passed _ (digits_value radix ds) n e in
    let small = (both_true _ _ (both_true _ _ t.0).1).1 in
    subst (λ k. k < 2 ^ 32) t.1 (below_word (digits_value radix ds) small)

either_numeral : (c : Bool) (a b : Option ℕ) (n : ℕ) → (a ≡ Some n → n < 2 ^ 32) → (b ≡ Some n → n < 2 ^ 32) → cond c a b ≡ Some n → n < 2 ^ 32
either_numeral true a b n one two e = one e
either_numeral false a b n one two e = two e

number_below : (w : List ℕ) (n : ℕ) → number_of w ≡ Some n → n < 2 ^ 32
unfolding number_of
number_below w n e = either_numeral _ _ _ n (numeral_below _ _ n) (numeral_below _ _ n) e

is_number_below : {ts : List Tok} {m : Bool} {n : ℕ} {rest : List Tok} → IsNumber ts m n rest → n < 2 ^ 32
is_number_below (plus {w = w} {n = n} e) = number_below w n e
is_number_below (minus {w = w} {n = n} e small) = number_below w n e

negative_range : (n : ℕ) → leb n 2048 ≡ true → IsImmediate (neg_ℤ (pos n))
negative_range zero e = lit≤ tt
negative_range (suc k) e = grind (arith, nat_tests)

positive_range : (n : ℕ) → ltb n 2048 ≡ true → IsImmediate (pos n)
positive_range n e = grind (arith, nat_tests)

immediate_range : (m : Bool) (n : ℕ) (z : ℤ) → immediate_of m n ≡ Some z → IsImmediate z
immediate_range true n z e = let t = passed (leb n 2048) (neg_ℤ (pos n)) z e in subst IsImmediate t.1 (negative_range n t.0)
immediate_range false n z e = let t = passed (ltb n 2048) (pos n) z e in subst IsImmediate t.1 (positive_range n t.0)

test_limit : (n limit : ℕ) → ltb n limit ≡ true → n < limit
test_limit n limit e = grind (arith, nat_tests)

below_range : (limit : ℕ) (m : Bool) (n v : ℕ) → below_of limit m n ≡ Some v → (v < limit) × (n ≡ v)
below_range limit m n v e =
    let t = passed _ n v e in
    (subst (λ k. k < limit) t.1 (test_limit n limit (both_true (ltb n limit) _ t.0).0), t.1)

constant_range : (m : Bool) (n : ℕ) → n < 2 ^ 32 → constant_of m n < 2 ^ 32
constant_range true n h = omega arith
constant_range false n h = h

-- ---- parts

pub record InRange (o : Filled) : Type 0 where
  pub rd : o.rd < 32
  pub first : o.first < 32
  pub second : o.second < 32
  pub imm : IsImmediate o.imm
  pub constant : o.constant < 2 ^ 32
  pub target : o.target < 256
  pub before : HasLetter o.before
  pub after : HasLetter o.after

part_keeps : {p : OperandPart} {o : Filled} {ts : List Tok} {o1 : Filled} {rest : List Tok} → IsPart p o ts o1 rest → InRange o → InRange o1
part_keeps (rd {w = w} {r = r} e) h = record { rd = register_below w r e; first = h.first; second = h.second; imm = h.imm; constant = h.constant; target = h.target; before = h.before; after = h.after }
part_keeps (first {w = w} {r = r} e) h = record { rd = h.rd; first = register_below w r e; second = h.second; imm = h.imm; constant = h.constant; target = h.target; before = h.before; after = h.after }
part_keeps (second {w = w} {r = r} e) h = record { rd = h.rd; first = h.first; second = register_below w r e; imm = h.imm; constant = h.constant; target = h.target; before = h.before; after = h.after }
part_keeps (x0 e) h = h
part_keeps sign h = h
part_keeps (imm {m = m} {n = n} {z = z} k e) h = record { rd = h.rd; first = h.first; second = h.second; imm = immediate_range m n z e; constant = h.constant; target = h.target; before = h.before; after = h.after }
part_keeps no_imm h = h
part_keeps (offset {m = m} {n = n} {z = z} k e) h = record { rd = h.rd; first = h.first; second = h.second; imm = immediate_range m n z e; constant = h.constant; target = h.target; before = h.before; after = h.after }
part_keeps (below {limit = limit} {m = m} {n = n} {v = v} k e) h =
    let small = subst (λ i. i < 2 ^ 32) (below_range limit m n v e).1 (is_number_below k) in
    record { rd = h.rd; first = h.first; second = h.second; imm = h.imm; constant = small; target = h.target; before = h.before; after = h.after }
part_keeps (constant {m = m} {n = n} k) h = record { rd = h.rd; first = h.first; second = h.second; imm = h.imm; constant = constant_range m n (is_number_below k); target = h.target; before = h.before; after = h.after }
part_keeps no_offset h = h
part_keeps (zero_offset k) h = h
part_keeps (label e) h = record { rd = h.rd; first = h.first; second = h.second; imm = h.imm; constant = h.constant; target = h.target; before = h.before; after = h.after }
part_keeps (before {w = w} {l = l} e) h = record { rd = h.rd; first = h.first; second = h.second; imm = h.imm; constant = h.constant; target = h.target; before = letters_have w l e; after = h.after }
part_keeps (after {w = w} {l = l} e) h = record { rd = h.rd; first = h.first; second = h.second; imm = h.imm; constant = h.constant; target = h.target; before = h.before; after = letters_have w l e }

parts_keep : {ps : List OperandPart} {o : Filled} {ts : List Tok} {f : Filled} → AreParts ps o ts f → InRange o → InRange f
parts_keep none h = h
parts_keep (next k ks) h = parts_keep ks (part_keeps k h)

blank_range : InRange blank
blank_range = record { rd = lit≤ tt; first = lit≤ tt; second = lit≤ tt; imm = lit≤ tt; constant = lit≤ tt; target = lit≤ tt; before = refl; after = refl }

-- a number below a limit comes last
last_below : (limit : ℕ) (o : Filled) (ts : List Tok) (f : Filled) → AreParts (part.Below limit ∷ []) o ts f → f.constant < limit
last_below limit o ts f (next (below {m = m} {n = n} {v = v} k e) none) = (below_range limit m n v e).0

shift_below : (o : ShiftOp) (ts : List Tok) (f : Filled) → AreParts (parts_of (op.Shift o)) blank ts f → f.constant < 32
shift_below o ts f (next a (next b (next c (next d more)))) = last_below 32 _ _ f more

lui_below : (ts : List Tok) (f : Filled) → AreParts (parts_of op.Lui) blank ts f → f.constant < 1048576
lui_below ts f (next a (next b more)) = last_below 1048576 _ _ f more

-- ---- instructions

made_of_table : (op : Op) (ts : List Tok) (f : Filled) → AreParts (parts_of op) blank ts f → is_refused op ≡ false → IsOfTable (instr_of op (operands_in f))
made_of_table (op.Register o) ts f h r = let k = parts_keep h blank_range in (k.rd, k.first, k.second)
made_of_table (op.Immediate o) ts f h r = let k = parts_keep h blank_range in (k.rd, k.first, k.imm)
made_of_table (op.Shift o) ts f h r = let k = parts_keep h blank_range in (k.rd, k.first, shift_below o ts f h)
made_of_table op.Lui ts f h r = let k = parts_keep h blank_range in (k.rd, lui_below ts f h)
made_of_table op.Li ts f h r = let k = parts_keep h blank_range in (k.rd, k.constant)
made_of_table (op.Lw ann) ts f h r = let k = parts_keep h blank_range in (r, k.rd, k.first, k.imm)
made_of_table (op.Sw ann) ts f h r = let k = parts_keep h blank_range in (r, k.second, k.first, k.imm)
made_of_table (op.Lr ann) ts f h r = let k = parts_keep h blank_range in (r, k.rd, k.first)
made_of_table (op.Sc ann) ts f h r = let k = parts_keep h blank_range in (r, k.rd, k.second, k.first)
made_of_table (op.Amo o ann) ts f h r = let k = parts_keep h blank_range in (k.rd, k.second, k.first)
made_of_table (op.Branch o) ts f h r = let k = parts_keep h blank_range in (k.first, k.second, k.target)
made_of_table op.Jal ts f h r = (parts_keep h blank_range).target
made_of_table op.Fence ts f h r = let k = parts_keep h blank_range in (k.before, k.after)
made_of_table op.FenceTso ts f h r = tt
made_of_table op.FenceI ts f h r = tt
made_of_table op.Nop ts f h r = (lit≤ tt, lit≤ tt, lit≤ tt)
made_of_table op.Mv ts f h r = let k = parts_keep h blank_range in (k.rd, k.first, lit≤ tt)
made_of_table op.Seqz ts f h r = let k = parts_keep h blank_range in (k.rd, k.first, lit≤ tt)
made_of_table op.Not ts f h r = let k = parts_keep h blank_range in (k.rd, k.first, lit≤ tt)
made_of_table (op.OfZero o) ts f h r = let k = parts_keep h blank_range in (k.rd, lit≤ tt, k.second)
made_of_table (op.WithZero o) ts f h r = let k = parts_keep h blank_range in (k.rd, k.first, lit≤ tt)
made_of_table (op.ZeroBranch o) ts f h r = let k = parts_keep h blank_range in (lit≤ tt, k.second, k.target)
made_of_table (op.Swapped o) ts f h r = let k = parts_keep h blank_range in (k.first, k.second, k.target)
made_of_table (op.BranchZero o) ts f h r = let k = parts_keep h blank_range in (k.first, lit≤ tt, k.target)
made_of_table op.J ts f h r = (parts_keep h blank_range).target
made_of_table op.FenceAll ts f h r = (refl, refl)

pub spelled_of_table : {ts : List Tok} {i : Instr} {l : Option (List ℕ)} → Spells ts i l → IsOfTable i
spelled_of_table (spells {ts = ts} {op = o} e h r) = made_of_table (is_alone o (is_empty ts)) ts _ h (is_refused_alone o (is_empty ts) r)

pub read_of_table : (ts : List Tok) (r : Result Parsed Refused) → Answers ts (outcome_of r) → IfOk r (λ p. IsOfTable p.instr)
read_of_table ts (Ok p) h = spelled_of_table h
read_of_table ts (Err e) h = tt
