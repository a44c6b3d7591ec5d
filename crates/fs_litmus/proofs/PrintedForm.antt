-- The tokens of a test's printed form have its form and its condition.
use Rattle.std.proofs.Common.{◌≡◌, ℕ, suc, ◌+◌, ◌-◌, ◌^◌, ◌<◌, ◌≤◌, List, [], ◌∷◌, ◌++◌, map, length, IsTrue, refl, sym, ◌∙◌, subst, arith, append_assoc}
use Rattle.std.proofs.lemmas.List.{length-map}
use Rattle.std.specs.List.{flat_map, enumerate_from, AllByRecursion}
use Rattle.fs_litmus_tokens.specs.Tokens.{Tok, Sign, Lined, without_lines}
use Rattle.fs_litmus_tokens.specs.declared.token.Mark.TheVariants as mark
use Rattle.fs_litmus_syntax.specs.Init.{block}
use Rattle.fs_litmus_syntax.specs.Header.{IsHeader}
use Rattle.fs_litmus_syntax.specs.Form.{Form, IsForm, form}
use Rattle.fs_instr.specs.OfTable.{IsOfTable}
use Rattle.fs_model.specs.Condition.{condition_of}
use Rattle.fs_model.specs.Test as tests
use Rattle.fs_model.specs.Test.{IsStart}
use Rattle.fs_litmus.specs.inner.Printable.{IsPrintable}
use Rattle.fs_model.specs.declared.test.Test.{Test}
use Rattle.fs_model.specs.declared.test.Quantifier.{Quantifier}
use Rattle.fs_litmus.specs.Locations.{Binding}
use Rattle.fs_litmus.specs.Settings.{entry_bindings}
use Rattle.fs_litmus.specs.inner.Written.{bindings_of, location_binding, start_bindings, entry_toks, row_toks, header_cells, rows_toks, column_toks, tallest, quantifier_toks, written_quantifier, syntax_of, syntax_toks, text_toks, HasWrittenForm}
use Rattle.fs_litmus.proofs.PrintedFormLines.{Are, next, lined_are}
use Rattle.fs_litmus.proofs.PrintedFormEntries.{Fits, entries, columns}
use Rattle.fs_litmus.proofs.PrintedFormRows.{FitsRow, body}
use Rattle.fs_litmus.proofs.PrintedFormCondition.{condition_read}
use Rattle.fs_litmus.proofs.PrintedFormFits.{each, each_each, each_append, locations_fit, starts_fit, syntax_fits, rows_fit, columns_fit}

-- the tokens are a form with these parts, and then some
record BeginsForm (ts : List Lined) (bs : List Binding) (n : ℕ) (rs : List (List (List Tok))) (q : Quantifier) (toks : List Tok) : Type 0 where
  pub read : Form
  pub rest : List Lined
  pub is : IsForm ts read rest
  pub bindings : entry_bindings read.entries ≡ bs
  pub columns : read.columns ≡ suc n
  pub rows : map (λ r. map without_lines r) read.rows ≡ rs
  pub quantifier : read.quantifier ≡ written_quantifier q
  pub are : Are rest toks

a_form : {ts : List Lined} (bs : List Binding) (n : ℕ) (rs : List (List (List Tok))) (q : Quantifier) (toks : List Tok) → AllByRecursion Fits bs → AllByRecursion (FitsRow n) rs
    → Are ts (Sign mark.OpenBrace ∷ (flat_map entry_toks bs ++ Sign mark.CloseBrace ∷ (row_toks (header_cells (suc n)) ++ (flat_map row_toks rs ++ (quantifier_toks q ++ toks)))))
    → BeginsForm ts bs n rs q toks
a_form bs n rs q toks bound filled (next are) =
    let init = entries bs _ bound are in
    let header = columns 0 n _ init.are in
    let one_more : 0 + suc n ≡ suc n = omega arith in
    let is_header : IsHeader init.rest (suc n) header.rest = subst (λ c. IsHeader init.rest c header.rest) one_more header.is in
    let rows_read = body n rs q toks filled header.are in
    record { read = record { entries = init.found; columns = suc n; rows = rows_read.found; quantifier = written_quantifier q }; rest = rows_read.rest; is = form (block init.is) is_header rows_read.is; bindings = init.bindings; columns = refl; rows = rows_read.same; quantifier = refl; are = rows_read.are }

regrouped_all : (o c : Tok) (es h rs q s : List Tok) → (o ∷ [] ++ es ++ c ∷ [] ++ h ++ rs ++ q ++ s) ≡ o ∷ (es ++ c ∷ (h ++ (rs ++ (q ++ s))))
regrouped_all o c es h rs q s = simp append_assoc

some_columns : (n : ℕ) → 1 ≤ n → n ≡ suc (n - 1)
some_columns n some = omega (arith, some)

bindings_fit : (u : Test) → IsPrintable u → AllByRecursion Fits (bindings_of u)
bindings_fit u test =
    let named = each (λ x. IsTrue (tests.is_name x.name)) u.locations test.named in
    each_append Fits (map location_binding u.locations) (flat_map (start_bindings u.locations) (enumerate_from 0 u.starts))
    (locations_fit u.locations named (each (λ x. x.word < 2 ^ 32) u.locations test.words))
    (starts_fit u.locations named 0 u.starts (omega (arith, test.bounded.starts, test.bounded.harts)) (each IsStart u.starts test.registers))

module _ (u : Test) (test : IsPrintable u) where
  -- the columns but the first
  abbrev later_columns : ℕ
  later_columns = length u.codes - 1

  cells_fit : AllByRecursion (FitsRow later_columns) (rows_toks u)
  cells_fit = rows_fit later_columns (map column_toks u.codes) (length-map u.codes column_toks ∙ some_columns (length u.codes) test.some_hart) (columns_fit u.codes (each_each IsOfTable u.codes test.instructions)) 0 (tallest (map column_toks u.codes))

  tokens_are : {ts : List Lined} → without_lines ts ≡ text_toks u → Are ts (Sign mark.OpenBrace ∷ (flat_map entry_toks (bindings_of u) ++ Sign mark.CloseBrace ∷ (row_toks (header_cells (suc later_columns)) ++ (flat_map row_toks (rows_toks u) ++ (quantifier_toks u.quantifier ++ syntax_toks (syntax_of u.locations (condition_of u.condition)))))))
  tokens_are {ts = ts} e =
      let es = flat_map entry_toks (bindings_of u) in
      let rs = flat_map row_toks (rows_toks u) in
      let s = syntax_toks (syntax_of u.locations (condition_of u.condition)) in
      let parts = regrouped_all (Sign mark.OpenBrace) (Sign mark.CloseBrace) es (row_toks (header_cells (length u.codes))) rs (quantifier_toks u.quantifier) s in
      subst (λ n. Are ts (Sign mark.OpenBrace ∷ (es ++ Sign mark.CloseBrace ∷ (row_toks (header_cells n) ++ (rs ++ (quantifier_toks u.quantifier ++ s)))))) (some_columns (length u.codes) test.some_hart) (lined_are ts _ (e ∙ parts))

  pub written_form : (ts : List Lined) → without_lines ts ≡ text_toks u → (read : Form) × (rest : List Lined) × HasWrittenForm u ts read rest
  written_form ts e =
      let named = each (λ x. IsTrue (tests.is_name x.name)) u.locations test.named in
      let all = a_form (bindings_of u) later_columns (rows_toks u) u.quantifier _ (bindings_fit u test) cells_fit (tokens_are e) in
      let fits = syntax_fits u.locations named (length u.codes) (condition_of u.condition) test.bounded.harts test.bounded.atoms in
      (all.read, all.rest, record { is_form = all.is; bindings = all.bindings; columns = all.columns ∙ sym (some_columns (length u.codes) test.some_hart); rows = all.rows; quantifier = all.quantifier; is_condition = condition_read u.locations (condition_of u.condition) fits all.are })
