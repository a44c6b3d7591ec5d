-- What stands in the cells of a printed code: labels where branches go, and the instructions.
use Rattle.std.proofs.Common.{◌≡◌, ℕ, ◌<◌, ◌^◌, zero, suc, List, [], ◌∷◌, ◌++◌, map, drop, replicate, Bool, true, false, ◌&&◌, ◌||◌, cond, eqb, eqb-true, Some, None, refl, sym, ap, ◌∙◌, subst, arith, codes, decimal}
use Rattle.std.specs.Char.{digit_value}
use Rattle.std.specs.List.{list_any}
use Rattle.std.specs.Str.Parse.{AllDigits}
use Rattle.std.proofs.lemmas.Fmt.{decimal_is_IsNumeral}
use Rattle.fs_litmus_tokens.specs.Tokens.{Tok, Word, Sign, Lined, word, without_lines}
use Rattle.fs_litmus_tokens.specs.Words.{is_name, class_of, keyword_of, is_number, is_digits}
use Rattle.fs_litmus_tokens.specs.declared.word.Class.{Class}
use Rattle.fs_litmus_tokens.specs.declared.token.Mark.TheVariants.{Colon}
use Rattle.fs_instr.specs.Instructions.{targeted, parts_of, op_of_instr, operands_of}
use Rattle.fs_instr.specs.Names.{name_text}
use Rattle.fs_instr.specs.OfTable.{IsOfTable}
use Rattle.fs_instr.specs.PrintedTokens.{instr_tokens, parts_tokens, label_of}
use Rattle.fs_instr.specs.Spelled.{Spells}
use Rattle.fs_instr.specs.declared.instr.Instr.{Instr}
use Rattle.fs_instr.specs.declared.instr.Instr.TheVariants as instr
use Rattle.fs_instr.proofs.ReadsBack.{name_back, reads_back}
use Rattle.fs_litmus_syntax.specs.Numbered.{is_numeric, is_label, named, operands}
use Rattle.fs_litmus_syntax.specs.Cells.{Label, Instruction, is_colon, front_label, AreLabels, none, label, IsCell, labels, instruction, AreCells, empty, next}
use Rattle.fs_litmus.specs.inner.Written.{label_toks}
use Rattle.fs_litmus.proofs.PrintedOperands.{operands_stay}

-- L and a position
abbrev pub label_name : ℕ → List ℕ
label_name at = codes "L" ++ decimal at

-- ---- a label is a name

and_false : (b : Bool) → (b && false) ≡ false
and_false true = refl
and_false false = refl

pub label_named : (t : ℕ) → t < 2 ^ 32 → is_name (class_of (label_name t)) ≡ true
label_named t h = name_back t h

label_is : (t : ℕ) → t < 2 ^ 32 → is_label (class_of (label_name t)) ≡ true
label_is t h = ap (λ b. b || is_numeric (class_of (label_name t))) (label_named t h)

-- ---- a token at the front

-- the first token, and those after it
record Front (ts : List Lined) (t : Tok) (more : List Tok) : Type 0 where
  line : ℕ
  rest : List Lined
  same : ts ≡ (t, line) ∷ rest
  left : without_lines rest ≡ more

front : (ts : List Lined) (t : Tok) (more : List Tok) → without_lines ts ≡ t ∷ more → Front ts t more
front [] t more e = absurd (cc)
front ((u, line) ∷ ts) t more e =
    let first : u ≡ t = cc e in
    record { line = line; rest = ts; same = ap (λ x. (x, line) ∷ ts) first; left = cc e }

-- what comes next is no colon
abbrev NoColon : List Tok → Type 0
NoColon [] = Unit {0}
NoColon (t ∷ ts) = (line : ℕ) → is_colon (t, line) ≡ false

operands_no_colon : (i : Instr) → NoColon (parts_tokens (parts_of (op_of_instr i)) (operands_of i))
operands_no_colon (instr.Register o rd a b) = λ line. refl
operands_no_colon (instr.Immediate o rd a z) = λ line. refl
operands_no_colon (instr.Shift o rd a n) = λ line. refl
operands_no_colon (instr.Lui rd n) = λ line. refl
operands_no_colon (instr.Li rd n) = λ line. refl
operands_no_colon (instr.Lw ann rd a z) = λ line. refl
operands_no_colon (instr.Sw ann v a z) = λ line. refl
operands_no_colon (instr.Lr ann rd a) = λ line. refl
operands_no_colon (instr.Sc ann rd v a) = λ line. refl
operands_no_colon (instr.Amo o ann rd v a) = λ line. refl
operands_no_colon (instr.Branch o a b t) = λ line. refl
operands_no_colon (instr.Jump t) = λ line. refl
operands_no_colon (instr.Fence p s) = λ line. refl
operands_no_colon instr.FenceTso = tt
operands_no_colon instr.FenceI = tt

no_label : (c : Class) (w : List ℕ) (line : ℕ) (rest : List Lined) (more : List Tok) → without_lines rest ≡ more → NoColon more → front_label ((Word c w, line) ∷ rest) ≡ None
no_label c w line [] more e h = refl
no_label c w line ((t, k) ∷ rest) [] e h = absurd (cc)
no_label c w line ((t, k) ∷ rest) (u ∷ more) e h =
    let first : t ≡ u = cc e in
    let plain : is_colon (t, k) ≡ false = subst (λ x. is_colon (x, k) ≡ false) (sym first) (h k) in
    ap (λ b. cond (is_label c && b) (Some (w, line)) None) plain ∙ ap (λ b. cond b (Some (w, line)) None) (and_false (is_label c))

-- ---- cells

-- an instruction, and no label before it
record EndsWithInstr (ts : List Lined) (i : Instr) : Type 0 where
  line : ℕ
  t : Tok
  rest : List Lined
  no_more : AreLabels ts [] ((t, line) ∷ rest)
  spells : Spells (t ∷ operands rest) (targeted 0 i) (label_of i)

ends_from : (ts : List Lined) (w : List ℕ) (more : List Tok) (i : Instr) → Spells (word w ∷ more) (targeted 0 i) (label_of i) → NoColon more → map named more ≡ more → without_lines ts ≡ word w ∷ more → EndsWithInstr ts i
ends_from ts w more i s h k e =
    let f = front ts (word w) more e in
    record {
      line = f.line;
      t = word w;
      rest = f.rest;
      no_more = subst (λ l. AreLabels l [] ((word w, f.line) ∷ f.rest)) (sym f.same) (none (no_label (class_of w) w f.line f.rest more f.left h));
      spells = subst (λ l. Spells (word w ∷ l) (targeted 0 i) (label_of i)) (sym (ap (map named) f.left ∙ k)) s;
    }

ends_with : (ts : List Lined) (i : Instr) → IsOfTable i → without_lines ts ≡ instr_tokens i → EndsWithInstr ts i
ends_with ts i h e = ends_from ts (name_text (op_of_instr i)) (parts_tokens (parts_of (op_of_instr i)) (operands_of i)) i (reads_back i h) (operands_no_colon i) (operands_stay i h (parts_of (op_of_instr i))) e

-- an instruction alone
pub record IsBareCell (ts : List Lined) (i : Instr) : Type 0 where
  pub line : ℕ
  pub is : IsCell ts (Instruction (targeted 0 i) (label_of i) line ∷ [])

pub bare_cell : (ts : List Lined) (i : Instr) → IsOfTable i → without_lines ts ≡ instr_tokens i → IsBareCell ts i
bare_cell ts i h e = let f = ends_with ts i h e in record { line = f.line; is = instruction f.no_more f.spells refl }

record AfterLabel (ts : List Lined) (at : ℕ) (more : List Tok) : Type 0 where
  line : ℕ
  rest : List Lined
  is_label : front_label ts ≡ Some (label_name at, line)
  past : drop 2 ts ≡ rest
  left : without_lines rest ≡ more

after_label : (ts : List Lined) (at : ℕ) (more : List Tok) → at < 2 ^ 32 → without_lines ts ≡ label_toks at ++ more → AfterLabel ts at more
after_label ts at more small e =
    let f = front ts (word (label_name at)) (Sign Colon ∷ more) e in
    let g = front f.rest (Sign Colon) more f.left in
    let all : ts ≡ (word (label_name at), f.line) ∷ (Sign Colon, g.line) ∷ g.rest = f.same ∙ ap (λ l. (word (label_name at), f.line) ∷ l) g.same in
    let named : front_label ((word (label_name at), f.line) ∷ (Sign Colon, g.line) ∷ g.rest) ≡ Some (label_name at, f.line) = rw (label_is at small) refl in
    record { line = f.line; rest = g.rest; is_label = ap front_label all ∙ named; past = ap (drop 2) all; left = g.left }

-- a label and an instruction
pub record IsLabelledCell (ts : List Lined) (at : ℕ) (i : Instr) : Type 0 where
  pub line : ℕ
  pub under : ℕ
  pub is : IsCell ts (Label (label_name at) line ∷ Instruction (targeted 0 i) (label_of i) under ∷ [])

pub labelled_cell : (ts : List Lined) (at : ℕ) (i : Instr) → at < 2 ^ 32 → IsOfTable i → without_lines ts ≡ label_toks at ++ instr_tokens i → IsLabelledCell ts at i
labelled_cell ts at i small h e =
    let a = after_label ts at (instr_tokens i) small e in
    let f = ends_with a.rest i h a.left in
    let more = subst (λ l. AreLabels l [] ((f.t, f.line) ∷ f.rest)) (sym a.past) f.no_more in
    record { line = a.line; under = f.line; is = instruction (label a.is_label more) f.spells refl }

no_tokens : (ts : List Lined) → without_lines ts ≡ [] → ts ≡ []
no_tokens [] e = refl
no_tokens (t ∷ ts) e = absurd (cc)

nothing_more : (ts : List Lined) → ts ≡ [] → AreLabels ts [] []
nothing_more ts e = subst (λ l. AreLabels l [] []) (sym e) (none refl)

-- a label at the end
pub record IsEndCell (ts : List Lined) (at : ℕ) : Type 0 where
  pub line : ℕ
  pub is : IsCell ts (Label (label_name at) line ∷ [])

pub end_cell : (ts : List Lined) (at : ℕ) → at < 2 ^ 32 → without_lines ts ≡ label_toks at → IsEndCell ts at
end_cell ts at small e =
    let a = after_label ts at [] small e in
    record { line = a.line; is = labels (label a.is_label (nothing_more (drop 2 ts) (a.past ∙ no_tokens a.rest a.left))) }

pub blank_cells : (cs : List (List Lined)) (m : ℕ) → map without_lines cs ≡ replicate m [] → AreCells cs []
blank_cells [] m e = empty
blank_cells (c ∷ cs) zero e = absurd (cc)
blank_cells (c ∷ cs) (suc m) e =
    let here : without_lines c ≡ [] = cc e in
    next (labels (nothing_more c (no_tokens c here))) (blank_cells cs m (cc e)) refl
