-- What is read is spelled, and what is spelled is read.
use Rattle.std.proofs.Common.{◌≡◌, ℕ, ℤ, ◌≤◌, ◌^◌, List, [], ◌∷◌, Option, Some, None, option_map, option_and_then, Bool, true, false, cond, refl, sym, ap, ◌∙◌, subst, eqb, eqb-true, eq-eqb, leb, arith, Ok, Err}
use Rattle.std.proofs.lemmas.Bool.Decides.{nat_tests}
use Rattle.fs_litmus_tokens.specs.Words.{is_name}
use Rattle.fs_litmus_tokens.specs.Tokens.{Tok, Word, Sign, Strange}
use Rattle.fs_litmus_tokens.specs.declared.word.Class.{Class}
use Rattle.fs_litmus_tokens.specs.declared.token.Mark.{Mark}
use Rattle.fs_litmus_tokens.specs.declared.token.Mark.TheVariants as mark
use Rattle.fs_instr.specs.Registers.{register_of}
use Rattle.fs_litmus_tokens.specs.Numbers.{number_of}
use Rattle.fs_instr.specs.FenceLetters.{letters_of}
use Rattle.fs_instr.specs.Operands.{Filled, blank, take_word, take_name, mark_number, is_mark, take_sign, take_register, take_letters, take_unsigned, take_number, signed, immediate_of, below_of, read_part, read_parts}
use Rattle.fs_instr.specs.Spelled.{IsNumber, plus, minus, IsPart, rd, first, second, x0, sign, imm, no_imm, offset, below, constant, no_offset, zero_offset, label, before, after, AreParts, none, next, Spells, spells, IsUnsupported, unsupported, IsUnknown, unknown, Answers}
use Rattle.fs_instr.specs.Names.{op_of}
use Rattle.fs_instr.specs.Instructions.{parts_of}
use Rattle.fs_instr.specs.Reading.{Outcome, is_refused, is_alone, is_empty, made, read_row, read_named, read_tokens}
use Rattle.fs_instr.specs.declared.names.Op.{Op}
use Rattle.fs_instr.specs.declared.names.Op.TheVariants as op
use Rattle.fs_instr.specs.declared.instr.Instr.{Instr}
use Rattle.fs_instr.specs.declared.reading.Refused.TheVariants.{Form, Name, Suffix}
use Rattle.std.specs.Option.{is_some}
use Rattle.fs_instr.specs.declared.letters.Letters.{Letters}
use Rattle.fs_instr.specs.declared.operands.OperandPart.{OperandPart}
use Rattle.fs_instr.specs.declared.operands.OperandPart.TheVariants as part

-- ---- options

pub record Both {A B : Type 0} (o : Option A) (f : A → Option B) (b : B) : Type 0 where
  pub value : A
  pub is : o ≡ Some value
  pub then : f value ≡ Some b

bound : {A B : Type 0} (f : A → Option B) (o : Option A) (b : B) → option_and_then f o ≡ Some b → Both o f b
bound f None b e = absurd (cc)
bound f (Some a) b e = record { value = a; is = refl; then = e }

pub record Mapped {A B : Type 0} (o : Option A) (f : A → B) (b : B) : Type 0 where
  pub value : A
  pub is : o ≡ Some value
  pub then : f value ≡ b

mapped : {A B : Type 0} (f : A → B) (o : Option A) (b : B) → option_map f o ≡ Some b → Mapped o f b
mapped f None b e = absurd (cc)
mapped f (Some a) b e = record { value = a; is = refl; then = cc }

tested : {A : Type 0} (c : Bool) (a b : A) → cond c (Some a) None ≡ Some b → (c ≡ true) × (a ≡ b)
tested true a b e = (refl, cc)
tested false a b e = absurd (cc)

-- ---- one token

pub record OfWord (ts : List Tok) (w : List ℕ) (rest : List Tok) : Type 0 where
  pub class : Class
  pub split : ts ≡ Word class w ∷ rest

word_is : (ts : List Tok) (x : List ℕ × List Tok) → take_word ts ≡ Some x → OfWord ts x.0 x.1
unfolding take_word
word_is [] x e = absurd (cc)
word_is (Word c w ∷ ts) x e =
    let p : (w, ts) ≡ x = cc in
    let all : OfWord (Word c w ∷ ts) w ts = record { class = c; split = refl } in
    subst (λ y. OfWord (Word c w ∷ ts) y.0 y.1) p all
word_is (Sign m ∷ ts) x e = absurd (cc)
word_is (Strange ∷ ts) x e = absurd (cc)

pub record OfName (ts : List Tok) (w : List ℕ) (rest : List Tok) : Type 0 where
  pub class : Class
  pub split : ts ≡ Word class w ∷ rest
  pub name : is_name class ≡ true

name_is : (ts : List Tok) (x : List ℕ × List Tok) → take_name ts ≡ Some x → OfName ts x.0 x.1
unfolding take_name
name_is [] x e = absurd (cc)
name_is (Word c w ∷ ts) x e =
    let t = tested (is_name c) (w, ts) x e in
    let all : OfName (Word c w ∷ ts) w ts = record { class = c; split = refl; name = t.0 } in
    let P : List ℕ × List Tok → Type 0 = λ y. OfName (Word c w ∷ ts) y.0 y.1 in
    subst P t.1 all
name_is (Sign m ∷ ts) x e = absurd (cc)
name_is (Strange ∷ ts) x e = absurd (cc)

abbrev mark_at : ℕ → Mark
mark_at n = cond (eqb n 0) mark.OpenBrace (cond (eqb n 1) mark.CloseBrace (cond (eqb n 2) mark.Semicolon (cond (eqb n 3) mark.Bar (cond (eqb n 4) mark.Comma (cond (eqb n 5) mark.Colon (cond (eqb n 6) mark.Equals (cond (eqb n 7) mark.OpenParen (cond (eqb n 8) mark.CloseParen (cond (eqb n 9) mark.OpenBracket (cond (eqb n 10) mark.CloseBracket (cond (eqb n 11) mark.Tilde (cond (eqb n 12) mark.Minus (cond (eqb n 13) mark.And (cond (eqb n 14) mark.Or (cond (eqb n 15) mark.Star (cond (eqb n 16) mark.Ampersand (cond (eqb n 17) mark.Less (cond (eqb n 18) mark.Greater (mark.Bang)))))))))))))))))))

mark_back : (m : Mark) → mark_at (mark_number m) ≡ m
mark_back mark.OpenBrace = refl
mark_back mark.CloseBrace = refl
mark_back mark.Semicolon = refl
mark_back mark.Bar = refl
mark_back mark.Comma = refl
mark_back mark.Colon = refl
mark_back mark.Equals = refl
mark_back mark.OpenParen = refl
mark_back mark.CloseParen = refl
mark_back mark.OpenBracket = refl
mark_back mark.CloseBracket = refl
mark_back mark.Tilde = refl
mark_back mark.Minus = refl
mark_back mark.And = refl
mark_back mark.Or = refl
mark_back mark.Star = refl
mark_back mark.Ampersand = refl
mark_back mark.Less = refl
mark_back mark.Greater = refl
mark_back mark.Bang = refl

same_mark : (k m : Mark) → is_mark k m ≡ true → k ≡ m
same_mark k m e = sym (mark_back k) ∙ ap mark_at (eqb-true (mark_number k) (mark_number m) e) ∙ mark_back m

own_mark : (m : Mark) → is_mark m m ≡ true
own_mark m = eq-eqb (mark_number m) (mark_number m) refl

sign_is : (m : Mark) (ts rest : List Tok) → take_sign m ts ≡ Some rest → ts ≡ Sign m ∷ rest
unfolding take_sign
sign_is m [] rest e = absurd (cc)
sign_is m (Word c w ∷ ts) rest e = absurd (cc)
sign_is m (Sign k ∷ ts) rest e = let t = tested (is_mark k m) ts rest e in ap (λ x. Sign x ∷ ts) (same_mark k m t.0) ∙ ap (λ l. Sign m ∷ l) t.1
sign_is m (Strange ∷ ts) rest e = absurd (cc)

-- ---- a word that stands for a value

pub record OneWord {A : Type 0} (f : List ℕ → Option A) (ts : List Tok) (a : A) (rest : List Tok) : Type 0 where
  pub class : Class
  pub word : List ℕ
  pub split : ts ≡ Word class word ∷ rest
  pub stands : f word ≡ Some a

one_word : {A : Type 0} (f : List ℕ → Option A) (ts : List Tok) (x : A × List Tok) → option_and_then (λ y. option_map (λ r. (r, y.1)) (f y.0)) (take_word ts) ≡ Some x → OneWord f ts x.0 x.1
one_word {A} f ts x e =
    let b = bound _ (take_word ts) x e in
    let m = mapped (λ r. (r, b.value.1)) (f b.value.0) x b.then in
    let w = word_is ts b.value b.is in
    let all : OneWord f ts m.value b.value.1 = record { class = w.class; word = b.value.0; split = w.split; stands = m.is } in
    let P : A × List Tok → Type 0 = λ y. OneWord f ts y.0 y.1 in
    subst P m.then all

register_is : (ts : List Tok) (x : ℕ × List Tok) → take_register ts ≡ Some x → OneWord register_of ts x.0 x.1
unfolding take_register
register_is ts x e = one_word register_of ts x e

letters_is : (ts : List Tok) (x : Letters × List Tok) → take_letters ts ≡ Some x → OneWord letters_of ts x.0 x.1
unfolding take_letters
letters_is ts x e = one_word letters_of ts x e

unsigned_is : (ts : List Tok) (x : ℕ × List Tok) → take_unsigned ts ≡ Some x → OneWord number_of ts x.0 x.1
unfolding take_unsigned
unsigned_is ts x e = one_word number_of ts x e

-- ---- numbers

small : (n : ℕ) → leb n (2 ^ 31) ≡ true → n ≤ 2147483648
small n e = grind (arith, nat_tests)

signed_is : (o : Option (List Tok)) (ts : List Tok) (x : Bool × ℕ × List Tok) → take_sign mark.Minus ts ≡ o → signed o ts ≡ Some x → IsNumber ts x.0 x.1 x.2
signed_is None ts x m e =
    let b = mapped _ (take_unsigned ts) x e in
    let w = unsigned_is ts b.value b.is in
    let P : Bool × ℕ × List Tok → Type 0 = λ y. IsNumber ts y.0 y.1 y.2 in
    subst P b.then (subst (λ l. IsNumber l false b.value.0 b.value.1) (sym w.split) (plus w.stands))
signed_is (Some later) ts x m e =
    let b = bound _ (take_unsigned later) x e in
    let t = tested (leb b.value.0 (2 ^ 31)) (true, b.value.0, b.value.1) x b.then in
    let w = unsigned_is later b.value b.is in
    let all = sign_is mark.Minus ts later m ∙ ap (λ l. Sign mark.Minus ∷ l) w.split in
    let P : Bool × ℕ × List Tok → Type 0 = λ y. IsNumber ts y.0 y.1 y.2 in
    subst P t.1 (subst (λ l. IsNumber l true b.value.0 b.value.1) (sym all) (minus w.stands (small b.value.0 t.0)))

number_is : (ts : List Tok) (x : Bool × ℕ × List Tok) → take_number ts ≡ Some x → IsNumber ts x.0 x.1 x.2
unfolding take_number
number_is ts x e = signed_is (take_sign mark.Minus ts) ts x refl e

number_from : (ts : List Tok) (m : Bool) (n : ℕ) (rest : List Tok) → IsNumber ts m n rest → take_number ts ≡ Some (m, n, rest)
unfolding take_number take_unsigned take_word take_sign
number_from ts m n rest (plus e) = rw e refl
number_from ts m n rest (minus e s) =
    let small : leb n (2 ^ 31) ≡ true = grind (arith, nat_tests) in
    rw (e, small) refl

-- ---- parts

abbrev Step : Type 0
Step = Filled × List Tok

-- an offset that is left out, or is 0
no_offset_is : (o : Filled) (ts : List Tok) (x : Step) (m : Option (List Tok)) → take_sign mark.OpenParen ts ≡ m → cond (is_some m) (Some (o, ts)) (option_and_then (λ y. cond (eqb y.1 0) (Some (o, y.2)) None) (take_number ts)) ≡ Some x → IsPart part.NoOffset o ts x.0 x.1
no_offset_is o ts x None m e =
    let b = bound _ (take_number ts) x e in
    let t = tested (eqb b.value.1 0) (o, b.value.2) x b.then in
    let P : Step → Type 0 = λ y. IsPart part.NoOffset o ts y.0 y.1 in
    let n = number_is ts b.value b.is in
    subst P t.1 (zero_offset (subst (λ k. IsNumber ts b.value.0 k b.value.2) (eqb-true b.value.1 0 t.0) n))
no_offset_is o ts x (Some rest) m e =
    let same = sign_is mark.OpenParen ts rest m in
    let P : Step → Type 0 = λ y. IsPart part.NoOffset o ts y.0 y.1 in
    let pair : (o, ts) ≡ x = cc in
    subst P pair (subst (λ l. IsPart part.NoOffset o l o l) (sym same) no_offset)

-- an offset that may be left out
offset_is : (o : Filled) (ts : List Tok) (x : Step) (m : Option (List Tok)) → take_sign mark.OpenParen ts ≡ m → cond (is_some m) (Some (o, ts)) (option_and_then (λ y. option_map (λ z. (record o { imm = z }, y.2)) (immediate_of y.0 y.1)) (take_number ts)) ≡ Some x → IsPart part.Offset o ts x.0 x.1
offset_is o ts x None m e =
    let b = bound _ (take_number ts) x e in
    let n = mapped _ (immediate_of b.value.0 b.value.1) x b.then in
    let P : Step → Type 0 = λ y. IsPart part.Offset o ts y.0 y.1 in
    subst P n.then (offset (number_is ts b.value b.is) n.is)
offset_is o ts x (Some rest) m e =
    let same = sign_is mark.OpenParen ts rest m in
    let P : Step → Type 0 = λ y. IsPart part.Offset o ts y.0 y.1 in
    let pair : (o, ts) ≡ x = cc in
    subst P pair (subst (λ l. IsPart part.Offset o l o l) (sym same) no_imm)

-- what a part read is that part
is_part : (p : OperandPart) (o : Filled) (ts : List Tok) (x : Step) → read_part p o ts ≡ Some x → IsPart p o ts x.0 x.1
is_part part.Rd o ts x e =
    let b = mapped _ (take_register ts) x e in
    let w = register_is ts b.value b.is in
    let P : Step → Type 0 = λ y. IsPart part.Rd o ts y.0 y.1 in
    subst P b.then (subst (λ l. IsPart part.Rd o l (record o { rd = b.value.0 }) b.value.1) (sym w.split) (rd w.stands))
is_part part.First o ts x e =
    let b = mapped _ (take_register ts) x e in
    let w = register_is ts b.value b.is in
    let P : Step → Type 0 = λ y. IsPart part.First o ts y.0 y.1 in
    subst P b.then (subst (λ l. IsPart part.First o l (record o { first = b.value.0 }) b.value.1) (sym w.split) (first w.stands))
is_part part.Second o ts x e =
    let b = mapped _ (take_register ts) x e in
    let w = register_is ts b.value b.is in
    let P : Step → Type 0 = λ y. IsPart part.Second o ts y.0 y.1 in
    subst P b.then (subst (λ l. IsPart part.Second o l (record o { second = b.value.0 }) b.value.1) (sym w.split) (second w.stands))
is_part part.Zero o ts x e =
    let b = bound _ (take_register ts) x e in
    let t = tested (eqb b.value.0 0) (o, b.value.1) x b.then in
    let w = register_is ts b.value b.is in
    let zero = w.stands ∙ ap Some (eqb-true b.value.0 0 t.0) in
    let P : Step → Type 0 = λ y. IsPart part.Zero o ts y.0 y.1 in
    subst P t.1 (subst (λ l. IsPart part.Zero o l o b.value.1) (sym w.split) (x0 zero))
is_part (part.Sign m) o ts x e =
    let b = mapped _ (take_sign m ts) x e in
    let P : Step → Type 0 = λ y. IsPart (part.Sign m) o ts y.0 y.1 in
    subst P b.then (subst (λ l. IsPart (part.Sign m) o l o b.value) (sym (sign_is m ts b.value b.is)) sign)
is_part part.Immediate o ts x e =
    let b = bound _ (take_number ts) x e in
    let m = mapped _ (immediate_of b.value.0 b.value.1) x b.then in
    let P : Step → Type 0 = λ y. IsPart part.Immediate o ts y.0 y.1 in
    subst P m.then (imm (number_is ts b.value b.is) m.is)
is_part part.Offset o ts x e = offset_is o ts x (take_sign mark.OpenParen ts) refl e
is_part (part.Below limit) o ts x e =
    let b = bound _ (take_number ts) x e in
    let m = mapped _ (below_of limit b.value.0 b.value.1) x b.then in
    let P : Step → Type 0 = λ y. IsPart (part.Below limit) o ts y.0 y.1 in
    subst P m.then (below (number_is ts b.value b.is) m.is)
is_part part.Constant o ts x e =
    let b = mapped _ (take_number ts) x e in
    let P : Step → Type 0 = λ y. IsPart part.Constant o ts y.0 y.1 in
    subst P b.then (constant (number_is ts b.value b.is))
is_part part.NoOffset o ts x e = no_offset_is o ts x (take_sign mark.OpenParen ts) refl e
is_part part.Label o ts x e =
    let b = mapped _ (take_name ts) x e in
    let w = name_is ts b.value b.is in
    let P : Step → Type 0 = λ y. IsPart part.Label o ts y.0 y.1 in
    subst P b.then (subst (λ l. IsPart part.Label o l (record o { label = Some b.value.0 }) b.value.1) (sym w.split) (label w.name))
is_part part.Before o ts x e =
    let b = mapped _ (take_letters ts) x e in
    let w = letters_is ts b.value b.is in
    let P : Step → Type 0 = λ y. IsPart part.Before o ts y.0 y.1 in
    subst P b.then (subst (λ l. IsPart part.Before o l (record o { before = b.value.0 }) b.value.1) (sym w.split) (before w.stands))
is_part part.After o ts x e =
    let b = mapped _ (take_letters ts) x e in
    let w = letters_is ts b.value b.is in
    let P : Step → Type 0 = λ y. IsPart part.After o ts y.0 y.1 in
    subst P b.then (subst (λ l. IsPart part.After o l (record o { after = b.value.0 }) b.value.1) (sym w.split) (after w.stands))

-- ---- what is spelled is read

no_paren : {ts : List Tok} {m : Bool} {n : ℕ} {rest : List Tok} → IsNumber ts m n rest → take_sign mark.OpenParen ts ≡ None
unfolding take_sign
no_paren (plus e) = refl
no_paren (minus e s) = refl

zero_from : (o : Filled) (ts rest : List Tok) (m : Bool) → IsNumber ts m 0 rest → read_part part.NoOffset o ts ≡ Some (o, rest)
zero_from o ts rest m n =
    let paren : take_sign mark.OpenParen ts ≡ None = no_paren n in
    let number = number_from ts m 0 rest n in
    rw (paren, number) refl

offset_from : (o : Filled) (ts rest : List Tok) (m : Bool) (n : ℕ) (z : ℤ) → IsNumber ts m n rest → immediate_of m n ≡ Some z → read_part part.Offset o ts ≡ Some (record o { imm = z }, rest)
offset_from o ts rest m n z k e =
    let paren : take_sign mark.OpenParen ts ≡ None = no_paren k in
    let number = number_from ts m n rest k in
    rw (paren, number, e) refl

part_from : {p : OperandPart} {o : Filled} {ts : List Tok} {o1 : Filled} {rest : List Tok} → IsPart p o ts o1 rest → read_part p o ts ≡ Some (o1, rest)
unfolding take_register take_letters take_word take_name take_sign
part_from (rd e) = rw e refl
part_from (first e) = rw e refl
part_from (second e) = rw e refl
part_from (x0 e) = rw e refl
part_from (sign {m = m}) = rw (own_mark m) refl
part_from (imm n z) = rw (number_from _ _ _ _ n, z) refl
part_from no_imm = refl
part_from (offset n z) = offset_from _ _ _ _ _ _ n z
part_from (below n z) = rw (number_from _ _ _ _ n, z) refl
part_from (constant n) = rw (number_from _ _ _ _ n) refl
part_from no_offset = refl
part_from (zero_offset n) = zero_from _ _ _ _ n
part_from (label e) = rw e refl
part_from (before e) = rw e refl
part_from (after e) = rw e refl

pub parts_from : {ps : List OperandPart} {o : Filled} {ts : List Tok} {f : Filled} → AreParts ps o ts f → read_parts ps o ts ≡ Some f
parts_from none = refl
parts_from (next h k) = rw (part_from h) (parts_from k)

pub parts_is : (ps : List OperandPart) (o : Filled) (ts : List Tok) (f : Filled) → read_parts ps o ts ≡ Some f → AreParts ps o ts f
parts_is [] o [] f e = let same : o ≡ f = cc in subst (λ y. AreParts [] o [] y) same none
parts_is [] o (t ∷ ts) f e = absurd (cc)
parts_is (p ∷ ps) o ts f e =
    let b = bound _ (read_part p o ts) f e in
    next (is_part p o ts b.value b.is) (parts_is ps b.value.0 b.value.1 f b.then)

-- ---- instructions

-- a fence with no letters isn't refused either
alone_same : (op : Op) (b : Bool) → is_refused (is_alone op b) ≡ is_refused op
alone_same (op.Register o) b = refl
alone_same (op.Immediate o) b = refl
alone_same (op.Shift o) b = refl
alone_same op.Lui b = refl
alone_same op.Li b = refl
alone_same (op.Lw ann) b = refl
alone_same (op.Sw ann) b = refl
alone_same (op.Lr ann) b = refl
alone_same (op.Sc ann) b = refl
alone_same (op.Amo o ann) b = refl
alone_same (op.Branch o) b = refl
alone_same op.Jal b = refl
alone_same op.Fence true = refl
alone_same op.Fence false = refl
alone_same op.FenceTso b = refl
alone_same op.FenceI b = refl
alone_same op.Nop b = refl
alone_same op.Mv b = refl
alone_same op.Seqz b = refl
alone_same op.Not b = refl
alone_same (op.OfZero o) b = refl
alone_same (op.WithZero o) b = refl
alone_same (op.BranchZero o) b = refl
alone_same (op.ZeroBranch o) b = refl
alone_same (op.Swapped o) b = refl
alone_same op.J b = refl
alone_same op.FenceAll b = refl

pub is_refused_alone : (op : Op) (b : Bool) {r : Bool} → is_refused op ≡ r → is_refused (is_alone op b) ≡ r
is_refused_alone op b e = alone_same op b ∙ e

pub spelled_read : {ts : List Tok} {i : Instr} {l : Option (List ℕ)} → Spells ts i l → read_tokens ts ≡ Ok (i, l)
unfolding read_tokens read_row
spelled_read (spells e h r) = rw (e, parts_from h, is_refused_alone _ _ r) refl

pub unsupported_read : {ts : List Tok} → IsUnsupported ts → read_tokens ts ≡ Err Suffix
unfolding read_tokens read_row
unsupported_read (unsupported e h r) = rw (e, parts_from h, is_refused_alone _ _ r) refl

pub unknown_read : {ts : List Tok} → IsUnknown ts → read_tokens ts ≡ Err Name
unfolding read_tokens
unknown_read (unknown e) = rw e refl

-- what an answer that isn't Form says
abbrev Says : List Tok → Outcome → Type 0
Says ts (Ok x) = Spells ts x.0 x.1
Says ts (Err Name) = IsUnknown ts
Says ts (Err Suffix) = IsUnsupported ts
Says ts (Err Form) = Unit {0}

row_says : (c : Class) (w : List ℕ) (ts : List Tok) (op : Op) (found : Option Filled) (refused : Bool) → op_of w ≡ Some op → read_parts (parts_of (is_alone op (is_empty ts))) blank ts ≡ found → is_refused op ≡ refused → Says (Word c w ∷ ts) (made (is_alone op (is_empty ts)) found)
row_says c w ts op None refused e h r = tt
row_says c w ts op (Some o) true e h r = rw (is_refused_alone op (is_empty ts) r) (unsupported e (parts_is _ _ _ _ h) r)
row_says c w ts op (Some o) false e h r = rw (is_refused_alone op (is_empty ts) r) (spells e (parts_is _ _ _ _ h) r)

named_says : (c : Class) (w : List ℕ) (ts : List Tok) (found : Option Op) → op_of w ≡ found → Says (Word c w ∷ ts) (read_named found ts)
unfolding read_row
named_says c w ts None e = unknown e
named_says c w ts (Some op) e = row_says c w ts op _ _ e refl refl

says : (ts : List Tok) → Says ts (read_tokens ts)
unfolding read_tokens
says [] = tt
says (Word c w ∷ ts) = named_says c w ts (op_of w) refl
says (Sign m ∷ ts) = tt
says (Strange ∷ ts) = tt

from_says : (ts : List Tok) (x : Outcome) → read_tokens ts ≡ x → Says ts x → Answers ts x
from_says ts (Ok x) e h = h
from_says ts (Err Name) e h = h
from_says ts (Err Suffix) e h = h
from_says ts (Err Form) e h = (λ i l k. let a = spelled_read k in cc, λ k. let a = unknown_read k in cc, λ k. let a = unsupported_read k in cc)

pub answers : (ts : List Tok) (x : Outcome) → x ≡ read_tokens ts → Answers ts x
answers ts x e = from_says ts x (sym e) (subst (Says ts) (sym e) (says ts))

pub only : (ts : List Tok) (x : Outcome) → x ≡ read_tokens ts → (i : Instr) (l : Option (List ℕ)) → Spells ts i l → x ≡ Ok (i, l)
only ts x e i l s = e ∙ spelled_read s
