-- What the reader of rows answers, by the grammar.
use Rattle.std.proofs.Common.{◌≡◌, ℕ, ◌-◌, ◌<◌, suc, List, [], ◌∷◌, ◌++◌, refl, sym, ap, ◌∙◌, subst, append_assoc, arith}
use Rattle.fs_litmus_tokens.specs.declared.token.Token.{Token}
use Rattle.fs_litmus_tokens.specs.Tokens.{Lined, views}
use Rattle.fs_litmus_tokens.specs.Sections.{Takes}
use Rattle.fs_litmus_syntax.specs.Reading.{StopsAt}
use Rattle.fs_litmus_syntax.specs.Body.{Cell, IsRow, one, cells, Body, IsBody, ending, row, flatten, rows_from}
use Rattle.fs_litmus_syntax.specs.Rows.{Flat, start}
use Rattle.fs_litmus_syntax.proofs.FormAnswering.{takes_as, stops_as}
use Rattle.fs_litmus_syntax.proofs.RowsResidual.{Left}

-- the cells of a row make that row again
row_cut : {k : ℕ} {ts m : List Lined} {r : List Cell} (n : ℕ) (front rest : List Cell) → IsRow (suc k) ts r m → rows_from n k front (r ++ rest) ≡ (front ++ r) ∷ rows_from n n [] rest
row_cut n front rest (one x) = refl
row_cut n front rest (cells {cell = cell} {cs = cs} x y) =
    row_cut n (front ++ cell ∷ []) rest y ∙ ap (λ z. z ∷ rows_from n n [] rest) (append_assoc front (cell ∷ []) cs)

body_cut : {ts m : List Lined} {b : Body} (n : ℕ) → IsBody (suc n) ts b m → rows_from n n [] (flatten b.rows) ≡ b.rows
body_cut n (ending x) = refl
body_cut n (row {r = r} {rs = rs} p x y) = row_cut n [] (flatten rs) x ∙ ap (λ z. r ∷ z) (body_cut n y)

abbrev pub flat_of : Body → Flat
flat_of b = record { cells = flatten b.rows; quantifier = b.quantifier }

abbrev pub rows_again : ℕ → Flat → Body
rows_again n a = record { rows = rows_from n n [] a.cells; quantifier = a.quantifier }

module _ (columns : ℕ) (some : 0 < columns) where
  one_more : suc (columns - 1) ≡ columns
  one_more = omega arith

  there : (ts : List Lined) (a : Flat) (m : List Lined) → Left (columns - 1) start ts a m → IsBody columns ts (rows_again (columns - 1) a) m
  there ts a m h =
      let same = body_cut (columns - 1) h.is_body in
      let body = subst (λ r. IsBody (suc (columns - 1)) ts (record { rows = r; quantifier = h.more.quantifier }) m) (sym same) h.is_body in
      let all = subst (λ f. IsBody (suc (columns - 1)) ts (rows_again (columns - 1) f) m) (sym h.all) body in
      subst (λ k. IsBody k ts (rows_again (columns - 1) a) m) one_more all

  here : (ts : List Lined) (b : Body) (m : List Lined) → IsBody columns ts b m → Left (columns - 1) start ts (flat_of b) m × (rows_again (columns - 1) (flat_of b) ≡ b)
  here ts b m h =
      let body = subst (λ k. IsBody k ts b m) (sym one_more) h in
      (record { more = b; is_body = body; all = refl }, ap (λ r. record { rows = r; quantifier = b.quantifier }) (body_cut (columns - 1) body))

  pub takes_body : (ts rest : List Lined) (a : Flat) → Takes (Left (columns - 1) start) ts a rest → Takes (IsBody columns) ts (rows_again (columns - 1) a) rest
  takes_body ts rest a h = takes_as (Left (columns - 1) start) (IsBody columns) (rows_again (columns - 1)) flat_of there here ts rest a h

  pub stops_body : (ts rest : List Token) → StopsAt (Left (columns - 1) start) ts rest → StopsAt (IsBody columns) ts rest
  stops_body ts rest h =
      record { stops = stops_as (Left (columns - 1) start) (IsBody columns) (rows_again (columns - 1)) flat_of there here (views ts) (views rest) h.stops; is_end = h.is_end }

-- no cell is left over
pub whole_cells : (n : ℕ) (ts rest : List Lined) (a : Flat) → Takes (Left n start) ts a rest → a.cells ≡ flatten (rows_from n n [] a.cells)
whole_cells n ts rest a h =
    let k = h.is [] in
    let e = ap (λ f. f.cells) k.all in
    e ∙ sym (ap flatten (ap (λ l. rows_from n n [] l) e ∙ body_cut n k.is_body))
