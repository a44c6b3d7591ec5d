-- The column of a hart among rows of cells.
use Rattle.std.proofs.Common.{◌≡◌, ℕ, ◌+◌, ◌-◌, ◌<◌, ◌≤◌, zero, suc, List, [], ◌∷◌, ◌++◌, map, length, get_or, refl, sym, ap, ◌∙◌, ap₂, arith}
use Rattle.std.proofs.lemmas.List.{length-map}
use Rattle.fs_litmus_syntax.specs.Body.{flatten}
use Rattle.fs_litmus_syntax.specs.Columns.{column}
use Rattle.std.proofs.Math.ListN.{get_or-map}

-- ---- the column of rows that all have one length

-- past the cells that stand before the column's next one
past_cells : {A : Type 0} (columns number : ℕ) (xs ys : List A) → length xs ≤ number → column columns number (xs ++ ys) ≡ column columns (number - length xs) ys
past_cells columns number [] ys h = let same : number ≡ number - 0 = omega arith in ap (λ n. column columns n ys) same
past_cells columns zero (x ∷ xs) ys h = absurd (omega arith)
past_cells columns (suc number) (x ∷ xs) ys h =
    let same : number - length xs ≡ suc number - suc (length xs) = omega arith in
    past_cells columns number xs ys (omega (arith, h)) ∙ ap (λ n. column columns n ys) same

-- a row of as many cells as there are columns, of which so many stand before these
row_cell : {A : Type 0} (columns before number : ℕ) (xs ys : List A) (d : A) → number < length xs → before + length xs ≡ columns → column columns number (xs ++ ys) ≡ get_or xs number d ∷ column columns (before + number) ys
row_cell columns before number [] ys d h e = absurd (omega (arith, h))
row_cell columns before zero (x ∷ xs) ys d h e =
    let few : length xs ≤ columns - 1 = omega (arith, e) in
    let same : columns - 1 - length xs ≡ before + 0 = omega (arith, e) in
    ap (λ l. x ∷ l) (past_cells columns (columns - 1) xs ys few ∙ ap (λ n. column columns n ys) same)
row_cell columns before (suc number) (x ∷ xs) ys d h e =
    let same : before + 1 + number ≡ before + suc number = omega arith in
    row_cell columns (before + 1) number xs ys d (omega (arith, h)) (omega (arith, e)) ∙ ap (λ n. get_or xs number d ∷ column columns n ys) same

-- the rows have this many cells each
abbrev pub AreWide : {A : Type 0} → ℕ → List (List A) → Type 0
AreWide columns [] = Unit {0}
AreWide columns (r ∷ rs) = (length r ≡ columns) × AreWide columns rs

pub column_rows : {A : Type 0} (columns number : ℕ) (rows : List (List A)) (d : A) → number < columns → AreWide columns rows → column columns number (flatten rows) ≡ map (λ r. get_or r number d) rows
column_rows columns number [] d h wide = refl
column_rows columns number (r ∷ rows) d h wide =
    let within : number < length r = omega (arith, h, wide.0) in
    let same : 0 + number ≡ number = omega arith in
    row_cell columns 0 number r (flatten rows) d within (omega (arith, wide.0))
    ∙ ap (λ n. get_or r number d ∷ column columns n (flatten rows)) same
    ∙ ap (λ l. get_or r number d ∷ l) (column_rows columns number rows d h wide.1)

-- ---- with lines

pub wide_map : {A B : Type 0} (f : A → B) (columns : ℕ) (rows : List (List A)) → AreWide columns (map (λ r. map f r) rows) → AreWide columns rows
wide_map f columns [] h = tt
wide_map f columns (r ∷ rows) h = (sym (length-map r f) ∙ h.0, wide_map f columns rows h.1)

-- the cells of a column, without their lines
pub cells_map : {A B : Type 0} (f : A → B) (number : ℕ) (rows : List (List A)) (d : A) → map f (map (λ r. get_or r number d) rows) ≡ map (λ r. get_or r number (f d)) (map (λ r. map f r) rows)
cells_map f number [] d = refl
cells_map {B = B} f number (r ∷ rows) d = ap₂ {C = List B} (λ x l. x ∷ l) (sym (get_or-map f r number d)) (cells_map f number rows d)
