-- The printed form of a test: its first line, its tokens, and that it is UTF-8.
use Rattle.std.proofs.Common.{◌≡◌, ◌≢◌, ℕ, ◌+◌, ◌≤◌, ◌^◌, List, [], ◌∷◌, ◌++◌, Option, Some, None, Bool, true, false, not, ◌||◌, refl, sym, ap, ◌∙◌, subst, append_assoc, append-nil, length, take, arith, eqb}
use Rattle.std.proofs.lemmas.Bool.{and_parts}
use Rattle.std.proofs.lemmas.Str.{IsUtf8-append, IsUtf8-from_ascii}
use Rattle.std.proofs.lemmas.Grind.{flat_map-append}
use Rattle.std.proofs.Math.Seq.{take-append_seam}
use Rattle.std.specs.Prelude.{IsTrue, codes, map}
use Rattle.std.specs.Str.{IsUtf8}
use Rattle.std.specs.List.{flat_map, enumerate_from, prefix_len, list_any, last_or}
use Rattle.fs_litmus_tokens.specs.Tokens.{Tok, Sign, Lined, none, without_lines}
use Rattle.fs_litmus_tokens.specs.declared.token.Mark.TheVariants as mark
use Rattle.fs_model.specs.Test.{is_title, is_visible}
use Rattle.fs_litmus.specs.inner.Printable.{IsPrintable}
use Rattle.fs_model.specs.Condition.{condition_of}
use Rattle.fs_model.specs.Printed.{printed, ended, locations_text, starts_text, header, rows_text, column, quantifier_text, condition_text}
use Rattle.fs_model.specs.declared.test.Test.{Test}
use Rattle.fs_litmus.specs.Title as title
use Rattle.fs_litmus.specs.Title.{after_line, is_within_line, ends_in_blank, begins_with_blank, top_of, IsTrimmed, HasTitle, IsBody, HasBody, here}
use Rattle.fs_litmus.specs.Reads.{HasTokens}
use Rattle.fs_litmus.specs.inner.Written.{entry_toks, location_binding, start_bindings, bindings_of, row_toks, header_cells, column_toks, rows_toks, quantifier_toks, syntax_of, syntax_toks, text_toks}
use Rattle.fs_litmus.proofs.PrintedBytes.{HasToks, Prints, opened, then, then_open, open_brace, close_brace, line_end, ended_line, tested_ascii, cons_ascii}
use Rattle.fs_litmus.proofs.PrintedBytesValues.{locations_print, starts_print}
use Rattle.fs_litmus.proofs.PrintedBytesRows.{header_prints, columns_open, rows_print}
use Rattle.fs_litmus.proofs.PrintedBytesCondition.{condition_opens, quantifier_prints}

-- ---- the text below the first line

abbrev pub title_of : Test → List ℕ
title_of u = codes "RISCV " ++ u.name

-- the printed form below its first line
abbrev pub body_of : Test → List ℕ
body_of u =
    ended (codes "{")
    ++ locations_text u.locations
    ++ starts_text u.locations u.starts
    ++ ended (codes "}")
    ++ ended (header (length u.codes))
    ++ rows_text (map column u.codes)
    ++ ended (quantifier_text u.quantifier ++ codes " " ++ condition_text u.locations (condition_of u.condition))

regrouped : (a b c d e f g h : List ℕ) → a ++ b ++ c ++ d ++ e ++ f ++ g ++ h ≡ a ++ (b ++ c ++ d ++ e ++ f ++ g ++ h)
regrouped a b c d e f g h = simp append_assoc

-- the printed form is its first line, LF, and the rest
pub printed_parts : (u : Test) → printed u ≡ title_of u ++ 10 ∷ body_of u
unfolding printed
printed_parts u =
    regrouped (ended (title_of u)) (ended (codes "{")) (locations_text u.locations) (starts_text u.locations u.starts) (ended (codes "}")) (ended (header (length u.codes))) (rows_text (map column u.codes)) (ended (quantifier_text u.quantifier ++ codes " " ++ condition_text u.locations (condition_of u.condition)))
    ∙ append_assoc (title_of u) (10 ∷ []) (body_of u)

-- ---- its tokens

module _ (u : Test) (h : IsPrintable u) where
  few_codes : length u.codes ≤ 2 ^ 32
  few_codes = omega (arith, h.bounded.harts)

  few_starts : length u.starts ≤ 2 ^ 32
  few_starts = omega (arith, h.bounded.harts, h.bounded.starts)

  bindings_print : Prints (locations_text u.locations ++ starts_text u.locations u.starts) (flat_map entry_toks (bindings_of u))
  bindings_print =
      subst (Prints (locations_text u.locations ++ starts_text u.locations u.starts)) (sym (flat_map-append entry_toks (map location_binding u.locations) (flat_map (start_bindings u.locations) (enumerate_from 0 u.starts))))
      (then (locations_print u.locations h.named h.words) (starts_print u.locations h.named u.starts few_starts h.registers))

  condition_prints : Prints (ended (quantifier_text u.quantifier ++ codes " " ++ condition_text u.locations (condition_of u.condition))) (quantifier_toks u.quantifier ++ syntax_toks (syntax_of u.locations (condition_of u.condition)))
  condition_prints = ended_line (then_open (quantifier_prints u.quantifier) (condition_opens u.locations h.named (length u.codes) few_codes (condition_of u.condition) h.bounded.atoms))

  body_prints : Prints (body_of u) (text_toks u)
  body_prints =
      let block = then (then (then open_brace line_end) bindings_print) (then close_brace line_end) in
      let rows = rows_print (map column u.codes) (map column_toks u.codes) (columns_open u.codes h.bounded.lengths h.instructions) in
      let code = then (then block (ended_line (opened (header_prints (length u.codes) few_codes)))) rows in
      let code_toks : List Tok = Sign mark.OpenBrace ∷ (flat_map entry_toks (bindings_of u) ++ Sign mark.CloseBrace ∷ [] ++ row_toks (header_cells (length u.codes)) ++ flat_map row_toks (rows_toks u)) in
      subst (Prints (body_of u)) (sym (append_assoc code_toks (quantifier_toks u.quantifier) (syntax_toks (syntax_of u.locations (condition_of u.condition))))) (then code condition_prints)

no_text : HasToks [] []
no_text line = ([], none, refl)

body_tokens : (u : Test) → IsPrintable u → HasToks (body_of u) (text_toks u)
body_tokens u h =
    let all = (body_prints u h).tokens [] [] no_text in
    subst (λ b. HasToks b (text_toks u)) (append-nil (body_of u)) (subst (HasToks (body_of u ++ [])) (append-nil (text_toks u)) all)

-- ---- the first line

no_line_end : (c d : Bool) → (c || d) ≡ false → (c ≡ false) × (d ≡ false)
no_line_end false d e = (refl, e)
no_line_end true d e = absurd (cc)

line_after : (w rest : List ℕ) → list_any (λ c. eqb c 10) w ≡ false → after_line (w ++ 10 ∷ rest) ≡ Some rest
line_after [] rest e = refl
line_after (b ∷ bs) rest e =
    let parts = no_line_end (eqb b 10) (list_any (λ c. eqb c 10) bs) e in
    rw parts.0 (line_after bs rest parts.1)

line_len : (w rest : List ℕ) → list_any (λ c. eqb c 10) w ≡ false → prefix_len is_within_line (w ++ 10 ∷ rest) ≡ length w
line_len [] rest e = refl
line_len (b ∷ bs) rest e =
    let parts = no_line_end (eqb b 10) (list_any (λ c. eqb c 10) bs) e in
    rw parts.0 (omega (arith, line_len bs rest parts.1))

first_line : (w rest : List ℕ) → list_any (λ c. eqb c 10) w ≡ false → title.line_of (w ++ 10 ∷ rest) ≡ w
first_line w rest e = ap (λ n. take n (w ++ 10 ∷ rest)) (line_len w rest e) ∙ take-append_seam w (10 ∷ rest)

not_true : (b : Bool) → not b ≡ true → b ≡ false
not_true false e = refl
not_true true e = absurd (cc)

-- what a name is
pub record IsPlainName (name : List ℕ) : Type 0 where
  pub one_line : list_any (λ c. eqb c 10) name ≡ false
  pub first : begins_with_blank name ≡ false
  pub last : ends_in_blank name ≡ false
  pub some : name ≢ []

last_visible : (c : ℕ) (cs : List ℕ) (o : Option ℕ) → IsTrue (is_visible (last_or o (c ∷ cs))) → ends_in_blank (c ∷ cs) ≡ false
last_visible c [] o e = not_true _ e
last_visible c (d ∷ cs) o e = last_visible d cs (Some c) e

plain_name : (name : List ℕ) → IsTrue (is_title name) → IsPlainName name
plain_name [] e = absurd (cc)
plain_name (c ∷ cs) e =
    let outer = and_parts _ _ e in
    let inner = and_parts _ _ outer.0 in
    record { one_line = not_true _ outer.1; first = not_true _ inner.0; last = last_visible c cs None inner.1; some = λ e. cc }

trimmed : (name : List ℕ) → IsPlainName name → IsTrimmed name name
trimmed name h = record { before = []; after = []; split = sym (append-nil name); blank_before = refl; blank_after = refl; first = h.first; last = h.last }

-- ---- the whole

-- the first line is the title's
top_printed : (u : Test) → top_of (printed u) ≡ (title_of u ++ 10 ∷ body_of u, 1)
top_printed u = ap top_of (printed_parts u)

-- it gives the test's name
pub printed_title : (u : Test) → IsPrintable u → HasTitle (printed u) u.name
printed_title u h =
    let name = plain_name u.name h.title in
    record {
      blank = 32;
      is_blank = refl;
      words = u.name;
      line = ap (λ x. title.line_of x.0) (top_printed u) ∙ first_line (title_of u) (body_of u) name.one_line;
      trimmed = trimmed u.name name;
      some = name.some;
    }

-- below the first line it has the tokens of the test's printed form
pub printed_tokens : (u : Test) → IsPrintable u → (ts : List Lined) × HasTokens (printed u) ts true × (without_lines ts ≡ text_toks u)
printed_tokens u h =
    let name = plain_name u.name h.title in
    let t = body_tokens u h 2 in
    let second : IsBody (body_of u) 2 (body_of u) 2 = here refl in
    let is_body = subst (λ x. IsBody (body_of u) (x.1 + 1) (body_of u) 2) (sym (top_printed u)) second in
    let has_body : HasBody (printed u) (body_of u) 2 = record {
      doc = body_of u;
      after_title = ap (λ x. after_line x.0) (top_printed u) ∙ line_after (title_of u) (body_of u) name.one_line;
      is_body = is_body;
    } in
    let has : HasTokens (printed u) t.0 true = record { body = body_of u; line = 2; has_body = has_body; are_tokens = t.1 } in
    (t.0, has, t.2)

-- a test whose name is UTF-8 prints as UTF-8
pub printed_utf8 : (u : Test) → IsPrintable u → IsUtf8 u.name → IsUtf8 (printed u)
printed_utf8 u h name =
    let title = IsUtf8-append (codes "RISCV ") u.name (IsUtf8-from_ascii (codes "RISCV ") (tested_ascii (codes "RISCV ") refl)) name in
    let body = IsUtf8-from_ascii (10 ∷ body_of u) (cons_ascii 10 (body_of u) (omega arith) (body_prints u h).ascii) in
    subst IsUtf8 (sym (printed_parts u)) (IsUtf8-append (title_of u) (10 ∷ body_of u) title body)
