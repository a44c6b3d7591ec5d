-- The cells of each hart in the rows of a printed form: its printed cells, and then empty ones.
use Rattle.std.proofs.Common.{◌≡◌, ℕ, ◌-◌, ◌≤◌, zero, suc, List, [], ◌∷◌, ◌++◌, map, length, get_or, replicate, slice_get, Some, refl, sym, ap, ap₂, ◌∙◌, subst, arith, length-append}
use Rattle.std.specs.List.{range_with_len}
use Rattle.std.proofs.lemmas.List.{length-map, length-replicate}
use Rattle.std.proofs.lemmas.List.FromFn.{fill_by_all}
use Rattle.fs_litmus_syntax.specs.Body.{flatten}
use Rattle.fs_litmus_syntax.specs.Columns.{column}
use Rattle.fs_instr.specs.declared.instr.Instr.{Instr}
use Rattle.fs_litmus_tokens.specs.Tokens.{Tok, Lined, without_lines}
use Rattle.fs_litmus.specs.inner.Written.{row_cells, tallest, column_toks}
use Rattle.fs_litmus.proofs.PrintedCodeColumns.{AreWide, column_rows, wide_map, cells_map}
use Rattle.std.proofs.lemmas.Option.{slice_get_within}
use Rattle.std.proofs.Math.ListN.{get_or-map}

-- ---- the rows of columns

rows_wide : (columns : List (List (List Tok))) (ats : List ℕ) → AreWide (length columns) (map (row_cells columns) ats)
rows_wide columns [] = tt
rows_wide columns (at ∷ ats) = (length-map columns _, rows_wide columns ats)

rows_column : (columns : List (List (List Tok))) (number : ℕ) (ats : List ℕ) → map (λ r. get_or r number []) (map (row_cells columns) ats) ≡ map (λ at. get_or (get_or columns number []) at []) ats
rows_column columns number [] = refl
rows_column columns number (at ∷ ats) =
    ap₂ {C = List (List Tok)} (λ x l. x ∷ l) (get_or-map (λ cells. get_or cells at []) columns number []) (rows_column columns number ats)

-- ---- a column, filled up with empty cells

filled_empty : {A : Type 0} (m k : ℕ) (d : A) → get_or (replicate m d) k d ≡ d
filled_empty zero k d = refl
filled_empty (suc m) zero d = refl
filled_empty (suc m) (suc k) d = filled_empty m k d

filled_get : {A : Type 0} (xs : List A) (m k : ℕ) (d : A) → get_or (xs ++ replicate m d) k d ≡ get_or xs k d
filled_get [] m k d = filled_empty m k d
filled_get (x ∷ xs) m zero d = refl
filled_get (x ∷ xs) m (suc k) d = filled_get xs m k d

filled : {A : Type 0} (xs : List A) (n : ℕ) (d : A) → length xs ≤ n → map (λ at. get_or xs at d) (range_with_len 0 n) ≡ xs ++ replicate (n - length xs) d
filled xs n d h =
    let first = length-append xs (replicate (n - length xs) d) in
    let second = length-replicate (n - length xs) d in
    let long : length (xs ++ replicate (n - length xs) d) ≡ n = omega (arith, first, second, h) in
    sym (fill_by_all (λ at. get_or xs at d) (xs ++ replicate (n - length xs) d) n d long (λ k l. filled_get xs (n - length xs) k d))

-- ---- the cells of a hart

column_within : (columns : List (List (List Tok))) (number : ℕ) → length (get_or columns number []) ≤ tallest columns
column_within [] number = omega arith
column_within (c ∷ cs) zero = omega arith
column_within (c ∷ cs) (suc number) = let h = column_within cs number in omega (arith, h)

-- the cells of a column are those of the code, and then empty ones
pub record HasColumn (cells : List (List Lined)) (code : List Instr) : Type 0 where
  pub blank : ℕ
  pub toks : map without_lines cells ≡ column_toks code ++ replicate blank []

got : {A B : Type 0} (f : A → B) (xs : List A) (number : ℕ) (x : A) (d : B) → slice_get xs number ≡ Some x → get_or (map f xs) number d ≡ f x
got f [] number x d e = absurd (cc)
got f (y ∷ xs) zero x d e = let same : y ≡ x = cc in ap f same
got f (y ∷ xs) (suc number) x d e = got f xs number x d e

pub column_cells : (codes : List (List Instr)) (rows : List (List (List Lined))) (number : ℕ) (code : List Instr) → map (λ r. map without_lines r) rows ≡ map (row_cells (map column_toks codes)) (range_with_len 0 (tallest (map column_toks codes))) → slice_get codes number ≡ Some code → HasColumn (column (length codes) number (flatten rows)) code
column_cells codes rows number code e found =
    let columns = map column_toks codes in
    let high = tallest columns in
    let wide : AreWide (length codes) rows = wide_map without_lines (length codes) rows (subst (λ l. AreWide (length codes) l) (sym e) (subst (λ n. AreWide n (map (row_cells columns) (range_with_len 0 high))) (length-map codes column_toks) (rows_wide columns (range_with_len 0 high)))) in
    let same : get_or columns number [] ≡ column_toks code = got column_toks codes number code [] found in
    let low : length (column_toks code) ≤ high = subst (λ l. length l ≤ high) same (column_within columns number) in
    record {
      blank = high - length (column_toks code);
      toks =
          ap (map without_lines) (column_rows (length codes) number rows [] (slice_get_within codes number code found) wide)
          ∙ cells_map without_lines number rows []
          ∙ ap (map (λ r. get_or r number [])) e
          ∙ rows_column columns number (range_with_len 0 high)
          ∙ ap (λ l. map (λ at. get_or l at []) (range_with_len 0 high)) same
          ∙ filled (column_toks code) high [] low;
    }
