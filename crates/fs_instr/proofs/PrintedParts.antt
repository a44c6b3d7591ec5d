-- The bytes of the printed form have its tokens.
use Rattle.std.proofs.Common.{◌≡◌, ℕ, ◌<◌, ◌^◌, List, [], ◌∷◌, ◌++◌, Option, Some, None, Bool, true, false, refl, sym, ap, ◌∙◌, subst, append_assoc, append-nil, arith, ℤ, pos, negsuc, suc}
use Rattle.std.proofs.lemmas.List.{map-append}
use Rattle.std.specs.Fmt.{decimal}
use Rattle.fs_litmus_tokens.specs.Bytes.{begins}
use Rattle.fs_litmus_tokens.specs.Tokens.{Tok, Word, Lined, AreTokens, none, skip, token, word, without_lines}
use Rattle.fs_litmus_tokens.specs.declared.word.Class.{Class}
use Rattle.fs_litmus_tokens.specs.declared.token.Mark.TheVariants as mark
use Rattle.fs_instr.specs.Rows.{look_up}
use Rattle.std.specs.Option.{option_or}
use Rattle.fs_instr.specs.Names.{op_of, name_text, register_names, immediate_names, branch_names, single_names, plain_names, acquiring_names, releasing_names, both_names, both_apart_names, short_names, short_branch_names, low_names}
use Rattle.fs_instr.specs.FenceLetters.{letters_text}
use Rattle.fs_instr.specs.Instructions.{parts_of, op_of_instr, operands_of, targeted}
use Rattle.fs_instr.specs.OfTable.{IsImmediate, HasLetter, IsOfTable}
use Rattle.fs_instr.specs.Spelled.{Spells, spells}
use Rattle.fs_instr.specs.Writing.{part_text, parts_text, row_text, instr_text}
use Rattle.fs_instr.specs.PrintedTokens.{part_tokens, parts_tokens, instr_tokens, IsApart, in_line, label_of, HasPrintedTokens, TextReadsBack}
use Rattle.fs_instr.specs.declared.names.Op.{Op}
use Rattle.fs_instr.specs.declared.operands.Operands.{Operands}
use Rattle.fs_instr.specs.declared.operands.OperandPart.{OperandPart}
use Rattle.fs_instr.specs.declared.operands.OperandPart.TheVariants as part
use Rattle.fs_instr.specs.declared.instr.Instr.{Instr}
use Rattle.fs_instr.specs.declared.instr.Instr.TheVariants as instr
use Rattle.fs_instr.proofs.PrintedWords.{is_word, word_prints, decimal_word, lettered_word, found_word}
use Rattle.fs_instr.proofs.ReadsBack.{reads_back}

-- what a part asks of the operands
abbrev Good : OperandPart → Operands → Type 0
Good part.Rd o = o.rd < 32
Good part.First o = o.first < 32
Good part.Second o = o.second < 32
Good part.Zero o = Unit {0}
Good (part.Sign mark.Comma) o = Unit {0}
Good (part.Sign mark.OpenParen) o = Unit {0}
Good (part.Sign mark.CloseParen) o = Unit {0}
Good (part.Sign _) o = ⊥
Good part.Immediate o = IsImmediate o.imm
Good part.Offset o = IsImmediate o.imm
Good (part.Below limit) o = o.constant < 2 ^ 32
Good part.Constant o = o.constant < 2 ^ 32
Good part.NoOffset o = Unit {0}
Good part.Label o = o.target < 256
Good part.Before o = HasLetter o.before
Good part.After o = HasLetter o.after

-- what a part asks of the bytes after it
abbrev Needs : OperandPart → List ℕ → Type 0
Needs part.NoOffset rest = Unit {0}
Needs (part.Sign mark.OpenParen) rest = begins 42 rest ≡ false
Needs (part.Sign _) rest = Unit {0}
Needs _ rest = IsApart rest

abbrev Fits : List OperandPart → Operands → List ℕ → Type 0
Fits [] o rest = Unit {0}
Fits (p ∷ ps) o rest = Good p o × Needs p (parts_text ps o ++ rest) × Fits ps o rest

letters_word : (i o r w : Bool) → HasLetter (record { input = i; output = o; reads = r; writes = w }) → is_word (letters_text (record { input = i; output = o; reads = r; writes = w })) ≡ true
letters_word false false false false h = absurd (cc)
letters_word false false false true h = refl
letters_word false false true false h = refl
letters_word false false true true h = refl
letters_word false true false false h = refl
letters_word false true false true h = refl
letters_word false true true false h = refl
letters_word false true true true h = refl
letters_word true false false false h = refl
letters_word true false false true h = refl
letters_word true false true false h = refl
letters_word true false true true h = refl
letters_word true true false false h = refl
letters_word true true false true h = refl
letters_word true true true false h = refl
letters_word true true true true h = refl

number_prints : (z : ℤ) (o : Operands) (rest : List ℕ) (line : ℕ) (ts : List Lined) (closed : Bool) → o.imm ≡ z → IsImmediate z → IsApart rest → AreTokens rest line ts closed → AreTokens (part_text part.Immediate (record o { imm = z }) ++ rest) line (in_line line (part_tokens part.Immediate (record o { imm = z })) ++ ts) closed
number_prints (pos n) o rest line ts closed e good apart h = word_prints (decimal n) rest line ts closed (decimal_word n (omega arith)) apart h
number_prints (negsuc n) o rest line ts closed e good apart h = token refl (word_prints (decimal (suc n)) rest line ts closed (decimal_word (suc n) (omega arith)) apart h)

module _ (o : Operands) (rest : List ℕ) (line : ℕ) (ts : List Lined) (closed : Bool) (h : AreTokens rest line ts closed) where
  register_prints : (r : ℕ) → r < 32 → IsApart rest → AreTokens ((120 ∷ decimal r) ++ rest) line ((word (120 ∷ decimal r), line) ∷ ts) closed
  register_prints r small apart = word_prints (120 ∷ decimal r) rest line ts closed (lettered_word 120 r refl (omega arith)) apart h

  pub part_prints : (p : OperandPart) → Good p o → Needs p rest → AreTokens (part_text p o ++ rest) line (in_line line (part_tokens p o) ++ ts) closed
  part_prints part.Rd good needs = register_prints o.rd good needs
  part_prints part.First good needs = register_prints o.first good needs
  part_prints part.Second good needs = register_prints o.second good needs
  part_prints part.Zero good needs = word_prints (120 ∷ 48 ∷ []) rest line ts closed refl needs h
  part_prints (part.Sign mark.Comma) good needs = token refl h
  part_prints (part.Sign mark.OpenParen) good needs = token (rw needs refl) h
  part_prints (part.Sign mark.CloseParen) good needs = token refl h
  part_prints (part.Sign mark.OpenBrace) good needs = absurd good
  part_prints (part.Sign mark.CloseBrace) good needs = absurd good
  part_prints (part.Sign mark.Semicolon) good needs = absurd good
  part_prints (part.Sign mark.Bar) good needs = absurd good
  part_prints (part.Sign mark.Colon) good needs = absurd good
  part_prints (part.Sign mark.Equals) good needs = absurd good
  part_prints (part.Sign mark.OpenBracket) good needs = absurd good
  part_prints (part.Sign mark.CloseBracket) good needs = absurd good
  part_prints (part.Sign mark.Tilde) good needs = absurd good
  part_prints (part.Sign mark.Minus) good needs = absurd good
  part_prints (part.Sign mark.And) good needs = absurd good
  part_prints (part.Sign mark.Or) good needs = absurd good
  part_prints (part.Sign mark.Star) good needs = absurd good
  part_prints (part.Sign mark.Ampersand) good needs = absurd good
  part_prints (part.Sign mark.Less) good needs = absurd good
  part_prints (part.Sign mark.Greater) good needs = absurd good
  part_prints (part.Sign mark.Bang) good needs = absurd good
  part_prints part.Immediate good needs = number_prints o.imm o rest line ts closed refl good needs h
  part_prints part.Offset good needs = number_prints o.imm o rest line ts closed refl good needs h
  part_prints (part.Below limit) good needs = word_prints (decimal o.constant) rest line ts closed (decimal_word o.constant good) needs h
  part_prints part.Constant good needs = word_prints (decimal o.constant) rest line ts closed (decimal_word o.constant good) needs h
  part_prints part.NoOffset good needs = h
  part_prints part.Label good needs = word_prints (76 ∷ decimal o.target) rest line ts closed (lettered_word 76 o.target refl (omega arith)) needs h
  part_prints part.Before good needs = word_prints (letters_text o.before) rest line ts closed (letters_word o.before.input o.before.output o.before.reads o.before.writes good) needs h
  part_prints part.After good needs = word_prints (letters_text o.after) rest line ts closed (letters_word o.after.input o.after.output o.after.reads o.after.writes good) needs h

in_line-append : (line : ℕ) (a b : List Tok) (ts : List Lined) → in_line line a ++ (in_line line b ++ ts) ≡ in_line line (a ++ b) ++ ts
in_line-append line a b ts = sym (append_assoc (in_line line a) (in_line line b) ts) ∙ ap (λ l. l ++ ts) (sym (map-append (λ (t : Tok). (t, line)) a b))

parts_print : (ps : List OperandPart) (o : Operands) (rest : List ℕ) (line : ℕ) (ts : List Lined) (closed : Bool) → Fits ps o rest → AreTokens rest line ts closed → AreTokens (parts_text ps o ++ rest) line (in_line line (parts_tokens ps o) ++ ts) closed
parts_print [] o rest line ts closed fits h = h
parts_print (p ∷ ps) o rest line ts closed fits h =
    let later = parts_print ps o rest line ts closed fits.2 h in
    let all = part_prints o (parts_text ps o ++ rest) line (in_line line (parts_tokens ps o) ++ ts) closed later p fits.0 fits.1 in
    let joined = subst (λ l. AreTokens (part_text p o ++ (parts_text ps o ++ rest)) line l closed) (in_line-append line (part_tokens p o) (parts_tokens ps o) ts) all in
    subst (λ b. AreTokens b line (in_line line (parts_tokens (p ∷ ps) o) ++ ts) closed) (sym (append_assoc (part_text p o) (parts_text ps o) rest)) joined

-- a name, and the operands after a blank
row_prints : (name : List ℕ) (ps : List OperandPart) (o : Operands) (rest : List ℕ) (line : ℕ) (ts : List Lined) (closed : Bool) → is_word name ≡ true → Fits ps o rest → IsApart rest → AreTokens rest line ts closed → AreTokens (row_text name ps o ++ rest) line (in_line line (word name ∷ parts_tokens ps o) ++ ts) closed
row_prints name [] o rest line ts closed is fits apart h =
    subst (λ b. AreTokens (b ++ rest) line ((word name, line) ∷ ts) closed) (sym (append-nil (name ++ []) ∙ append-nil name)) (word_prints name rest line ts closed is apart h)
row_prints name (p ∷ ps) o rest line ts closed is fits apart h =
    let later = parts_print (p ∷ ps) o rest line ts closed fits h in
    let blank : AreTokens (32 ∷ (parts_text (p ∷ ps) o ++ rest)) line (in_line line (parts_tokens (p ∷ ps) o) ++ ts) closed = skip refl later in
    let all = word_prints name (32 ∷ (parts_text (p ∷ ps) o ++ rest)) line (in_line line (parts_tokens (p ∷ ps) o) ++ ts) closed is refl blank in
    subst (λ b. AreTokens b line ((word name, line) ∷ (in_line line (parts_tokens (p ∷ ps) o) ++ ts)) closed) (sym (append_assoc (name ++ 32 ∷ []) (parts_text (p ∷ ps) o) rest ∙ append_assoc name (32 ∷ []) (parts_text (p ∷ ps) o ++ rest))) all

-- ---- names

or_word : (a b : Option Op) (y : Op) (w : List ℕ) → (a ≡ Some y → is_word w ≡ true) → (b ≡ Some y → is_word w ≡ true) → option_or a b ≡ Some y → is_word w ≡ true
or_word None b y w one two e = two e
or_word (Some x) b y w one two e = one e

pub op_word : (w : List ℕ) (o : Op) → op_of w ≡ Some o → is_word w ≡ true
unfolding op_of register_names immediate_names branch_names single_names plain_names acquiring_names releasing_names both_names both_apart_names short_names short_branch_names low_names
op_word w o e =
    or_word (look_up register_names w) _ o w (found_word register_names w o refl)
    (or_word (look_up immediate_names w) _ o w (found_word immediate_names w o refl)
    (or_word (look_up branch_names w) _ o w (found_word branch_names w o refl)
    (or_word (look_up single_names w) _ o w (found_word single_names w o refl)
    (or_word (look_up plain_names w) _ o w (found_word plain_names w o refl)
    (or_word (look_up acquiring_names w) _ o w (found_word acquiring_names w o refl)
    (or_word (look_up releasing_names w) _ o w (found_word releasing_names w o refl)
    (or_word (look_up both_names w) _ o w (found_word both_names w o refl)
    (or_word (look_up both_apart_names w) _ o w (found_word both_apart_names w o refl)
    (or_word (look_up short_names w) _ o w (found_word short_names w o refl)
    (or_word (look_up short_branch_names w) _ o w (found_word short_branch_names w o refl)
    (found_word low_names w o refl))))))))))) e

pub spelled_word : {c : Class} {w : List ℕ} {ts : List Tok} {i : Instr} {l : Option (List ℕ)} → Spells (Word c w ∷ ts) i l → is_word w ≡ true
spelled_word (spells {w = w} {op = o} e h r) = op_word w o e

-- ---- instructions

fits : (i : Instr) → IsOfTable i → (rest : List ℕ) → IsApart rest → Fits (parts_of (op_of_instr i)) (operands_of i) rest
fits (instr.Register o d a b) h rest apart = (h.0, refl, (tt, tt, (h.1, refl, (tt, tt, (h.2, apart, tt)))))
fits (instr.Immediate o d a z) h rest apart = (h.0, refl, (tt, tt, (h.1, refl, (tt, tt, (h.2, apart, tt)))))
fits (instr.Shift o d a n) h rest apart = (h.0, refl, (tt, tt, (h.1, refl, (tt, tt, (omega arith, apart, tt)))))
fits (instr.Lui d n) h rest apart = (h.0, refl, (tt, tt, (omega arith, apart, tt)))
fits (instr.Li d n) h rest apart = (h.0, refl, (tt, tt, (h.1, apart, tt)))
fits (instr.Lw ann d a z) h rest apart = (h.1, refl, (tt, tt, (h.3, refl, (tt, refl, (h.2, refl, (tt, tt, tt))))))
fits (instr.Sw ann v a z) h rest apart = (h.1, refl, (tt, tt, (h.3, refl, (tt, refl, (h.2, refl, (tt, tt, tt))))))
fits (instr.Lr ann d a) h rest apart = (h.1, refl, (tt, tt, (tt, tt, (tt, refl, (h.2, refl, (tt, tt, tt))))))
fits (instr.Sc ann d v a) h rest apart = (h.1, refl, (tt, tt, (h.2, refl, (tt, tt, (tt, tt, (tt, refl, (h.3, refl, (tt, tt, tt))))))))
fits (instr.Amo o ann d v a) h rest apart = (h.0, refl, (tt, tt, (h.1, refl, (tt, tt, (tt, tt, (tt, refl, (h.2, refl, (tt, tt, tt))))))))
fits (instr.Branch o a b t) h rest apart = (h.0, refl, (tt, tt, (h.1, refl, (tt, tt, (h.2, apart, tt)))))
fits (instr.Jump t) h rest apart = (tt, refl, (tt, tt, (h, apart, tt)))
fits (instr.Fence p s) h rest apart = (h.0, refl, (tt, tt, (h.1, apart, tt)))
fits instr.FenceTso h rest apart = tt
fits instr.FenceI h rest apart = tt

pub printed : (i : Instr) → IsOfTable i → HasPrintedTokens i
unfolding instr_text
printed i h rest line ts closed apart are =
    row_prints (name_text (op_of_instr i)) (parts_of (op_of_instr i)) (operands_of i) rest line ts closed (spelled_word (reads_back i h)) (fits i h rest apart) apart are

of_line : (line : ℕ) (ts : List Tok) → without_lines (in_line line ts) ≡ ts
of_line line [] = refl
of_line line (t ∷ ts) = ap (λ l. t ∷ l) (of_line line ts)

pub text_back : (i : Instr) → IsOfTable i → TextReadsBack i
text_back i h =
    let all = printed i h [] 0 [] true tt none in
    let bytes = subst (λ b. AreTokens b 0 (in_line 0 (instr_tokens i) ++ []) true) (append-nil (instr_text i)) all in
    let are = subst (λ l. AreTokens (instr_text i) 0 l true) (append-nil (in_line 0 (instr_tokens i))) bytes in
    (in_line 0 (instr_tokens i), are, subst (λ l. Spells l (targeted 0 i) (label_of i)) (sym (of_line 0 (instr_tokens i))) (reads_back i h))
