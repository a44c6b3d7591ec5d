-- The tokens of the rows of cells and of the quantifier, read.
use Rattle.std.proofs.Common.{◌≡◌, ℕ, suc, List, [], ◌∷◌, ◌++◌, Bool, true, false, ◌&&◌, map, length, refl, ap, ap₂, subst, arith}
use Rattle.std.specs.List.{flat_map, list_all, AllByRecursion}
use Rattle.fs_litmus_tokens.specs.Tokens.{Tok, Sign, Lined, without_lines}
use Rattle.fs_litmus_tokens.specs.Words.{class_of, keyword_of}
use Rattle.fs_litmus_tokens.specs.declared.token.Mark.TheVariants as mark
use Rattle.fs_litmus_syntax.specs.Body.{is_plain, is_stop, BeginsRow, Cell, IsCell, nothing, plain, IsRow, one, cells, IsQuantifier, exists, not_exists, forall, bare, IsBody, ending, row}
use Rattle.fs_model.specs.declared.test.Quantifier.{Quantifier}
use Rattle.fs_model.specs.declared.test.Quantifier.TheVariants.{Exists, NotExists, Forall}
use Rattle.fs_litmus.specs.inner.Written.{row_toks, quantifier_toks, written_quantifier}
use Rattle.fs_litmus.proofs.PrintedFormLines.{Are, next, regrouped, Begins, first}

both_true : (a b : Bool) → (a && b) ≡ true → (a ≡ true) × (b ≡ true)
both_true true b e = (refl, e)
both_true false b e = absurd (cc)

-- ---- cells

-- the tokens may begin a row
abbrev pub MayBegin : List Tok → Type 0
MayBegin [] = Unit {0}
MayBegin (t ∷ ts) = is_stop t ≡ false

-- the tokens may be a cell, also the first of a row
abbrev pub FitsCell : List Tok → Type 0
FitsCell c = (list_all is_plain c ≡ true) × MayBegin c

-- the tokens are this cell, and then some
record BeginsCell (ts : List Lined) (c toks : List Tok) : Type 0 where
  pub found : Cell
  pub rest : List Lined
  pub is : IsCell ts found rest
  pub same : without_lines found ≡ c
  pub are : Are rest toks

a_cell : {ts : List Lined} (c toks : List Tok) → list_all is_plain c ≡ true → Are ts (c ++ toks) → BeginsCell ts c toks
a_cell [] toks fits are = record { found = []; rest = _; is = nothing; same = refl; are = are }
a_cell (t ∷ c) toks fits (next {k = k} are) =
    let both = both_true (is_plain t) (list_all is_plain c) fits in
    let later = a_cell c toks both.1 are in
    record { found = (t, k) ∷ later.found; rest = later.rest; is = plain both.0 later.is; same = ap (λ l. t ∷ l) later.same; are = later.are }

-- ---- rows

-- the tokens are a row of these cells, and then some
record BeginsARow (ts : List Lined) (cs : List (List Tok)) (toks : List Tok) : Type 0 where
  pub found : List Cell
  pub rest : List Lined
  pub is : IsRow (length cs) ts found rest
  pub same : map without_lines found ≡ cs
  pub are : Are rest toks

a_row : (c : List Tok) (cs : List (List Tok)) {ts : List Lined} (toks : List Tok) → AllByRecursion FitsCell (c ∷ cs) → Are ts (row_toks (c ∷ cs) ++ toks) → BeginsARow ts (c ∷ cs) toks
a_row c [] {ts = ts} toks fits are =
    let front = a_cell c (Sign mark.Semicolon ∷ toks) fits.0.0 (regrouped c (Sign mark.Semicolon ∷ []) toks are) in
    let after = first front.are in
    record { found = front.found ∷ []; rest = after.rest; is = one (subst (λ m. IsCell ts front.found m) after.split front.is); same = ap (λ l. l ∷ []) front.same; are = after.are }
a_row c (d ∷ cs) {ts = ts} toks fits are =
    let front = a_cell c (Sign mark.Bar ∷ (row_toks (d ∷ cs) ++ toks)) fits.0.0 (regrouped c (Sign mark.Bar ∷ row_toks (d ∷ cs)) toks are) in
    let after = first front.are in
    let later = a_row d cs toks fits.1 after.are in
    record { found = front.found ∷ later.found; rest = later.rest; is = cells (subst (λ m. IsCell ts front.found m) after.split front.is) later.is; same = ap₂ (λ x l. x ∷ l) front.same later.same; are = later.are }

row_begins : {ts : List Lined} (c : List Tok) (cs : List (List Tok)) (toks : List Tok) → MayBegin c → Are ts (row_toks (c ∷ cs) ++ toks) → BeginsRow ts
row_begins [] [] toks may (next are) = refl
row_begins [] (d ∷ cs) toks may (next are) = refl
row_begins (t ∷ c) [] toks may (next are) = may
row_begins (t ∷ c) (d ∷ cs) toks may (next are) = may

-- ---- the quantifier

pub quantifier : {ts : List Lined} (q : Quantifier) (toks : List Tok) → Are ts (quantifier_toks q ++ toks) → Begins IsQuantifier ts (written_quantifier q) toks
unfolding class_of keyword_of
quantifier Exists toks (next are) = record { rest = _; is = exists; are = are }
quantifier NotExists toks (next (next are)) = record { rest = _; is = not_exists; are = are }
quantifier Forall toks (next are) = record { rest = _; is = forall; are = are }

-- ---- rows and the quantifier

-- the row has so many cells, each of which may stand in it
abbrev pub FitsRow : ℕ → List (List Tok) → Type 0
FitsRow n cs = (length cs ≡ suc n) × AllByRecursion FitsCell cs

-- the tokens are these rows and the quantifier, and then some
pub record BeginsBody (n : ℕ) (ts : List Lined) (rs : List (List (List Tok))) (q : Quantifier) (toks : List Tok) : Type 0 where
  pub found : List (List Cell)
  pub rest : List Lined
  pub is : IsBody (suc n) ts (record { rows = found; quantifier = written_quantifier q }) rest
  pub same : map (λ r. map without_lines r) found ≡ rs
  pub are : Are rest toks

pub body : (n : ℕ) (rs : List (List (List Tok))) {ts : List Lined} (q : Quantifier) (toks : List Tok) → AllByRecursion (FitsRow n) rs → Are ts (flat_map row_toks rs ++ (quantifier_toks q ++ toks)) → BeginsBody n ts rs q toks
body n [] q toks fits are =
    let asked = quantifier q toks are in
    record { found = []; rest = asked.rest; is = ending (bare asked.is); same = refl; are = asked.are }
body n ([] ∷ rs) q toks fits are = absurd (omega (arith, fits.0.0))
body n ((c ∷ cs) ∷ rs) {ts = ts} q toks fits are =
    let whole = regrouped (row_toks (c ∷ cs)) (flat_map row_toks rs) (quantifier_toks q ++ toks) are in
    let front = a_row c cs _ fits.0.1 whole in
    let later = body n rs q toks fits.1 front.are in
    let is_row : IsRow (suc n) ts front.found front.rest = subst (λ m. IsRow m ts front.found front.rest) fits.0.0 front.is in
    record { found = front.found ∷ later.found; rest = later.rest; is = row (row_begins c cs _ fits.0.1.0.1 whole) is_row later.is; same = ap₂ (λ x l. x ∷ l) front.same later.same; are = later.are }
