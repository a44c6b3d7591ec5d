-- The rows of cells, the locations and the quantifier (herd7's format of litmus tests).
-- L ts a rest says that the tokens ts are an L that means a, and then rest.
use Rattle.std.specs.Prelude.{◌≡◌, ℕ, ◌-◌, zero, suc, List, [], ◌∷◌, ◌++◌, Bool, true, false, map, take, drop}
use Rattle.std.specs.Borrow.{Bor}
use Rattle.fs_litmus_tokens.specs.Tokens.{Tok, Lined, Word, Sign, Strange, views}
use Rattle.fs_litmus_tokens.specs.declared.word.Class.TheVariants as class
use Rattle.fs_litmus_tokens.specs.declared.token.Token.{Token}
use Rattle.fs_litmus_tokens.specs.declared.token.Mark.TheVariants.{Semicolon, Bar, OpenBracket, CloseBracket, Tilde}
use Rattle.fs_litmus_syntax.specs.declared.rows.Quantifier.{Quantifier}
use Rattle.fs_litmus_syntax.specs.declared.rows.Quantifier.TheVariants.{Exists, NotExists, Forall}

-- ---- rows

-- what may stand in a cell
abbrev pub is_plain : Tok → Bool
is_plain (Sign Bar) = false
is_plain (Sign Semicolon) = false
is_plain Strange = false
is_plain _ = true

-- a cell: a list of its tokens
abbrev pub Cell : Type 0
Cell = List Lined

pub data IsCell : List Lined → Cell → List Lined → Type 0 where
  nothing : {rest : List Lined} → IsCell rest [] rest
  plain : {t : Tok} {k : ℕ} {ts cell rest : List Lined} → is_plain t ≡ true → IsCell ts cell rest → IsCell ((t, k) ∷ ts) ((t, k) ∷ cell) rest

-- a row of as many cells
pub data IsRow : ℕ → List Lined → List Cell → List Lined → Type 0 where
  one : {k : ℕ} {cell : Cell} {ts rest : List Lined} → IsCell ts cell ((Sign Semicolon, k) ∷ rest) → IsRow 1 ts (cell ∷ []) rest
  cells : {n k : ℕ} {cell : Cell} {cs : List Cell} {ts mid rest : List Lined} → IsCell ts cell ((Sign Bar, k) ∷ mid) → IsRow (suc n) mid cs rest → IsRow (suc (suc n)) ts (cell ∷ cs) rest

-- ---- what stands after the rows

-- what may stand between the brackets after locations
abbrev pub is_skipped : Tok → Bool
is_skipped (Sign CloseBracket) = false
is_skipped Strange = false
is_skipped _ = true

pub data IsSkipped : List Lined → List Lined → Type 0 where
  closed : {k : ℕ} {rest : List Lined} → IsSkipped ((Sign CloseBracket, k) ∷ rest) rest
  skipped : {t : Tok} {k : ℕ} {ts rest : List Lined} → is_skipped t ≡ true → IsSkipped ts rest → IsSkipped ((t, k) ∷ ts) rest

-- exists; ~ exists; or forall
pub data IsQuantifier : List Lined → Quantifier → List Lined → Type 0 where
  exists : {w : List ℕ} {k : ℕ} {rest : List Lined} → IsQuantifier ((Word class.ExistsWord w, k) ∷ rest) Exists rest
  not_exists : {w : List ℕ} {j k : ℕ} {rest : List Lined} → IsQuantifier ((Sign Tilde, j) ∷ (Word class.ExistsWord w, k) ∷ rest) NotExists rest
  forall : {w : List ℕ} {k : ℕ} {rest : List Lined} → IsQuantifier ((Word class.ForallWord w, k) ∷ rest) Forall rest

-- the quantifier, before which locations [ .. ] may stand
pub data IsEnding : List Lined → Quantifier → List Lined → Type 0 where
  bare : {q : Quantifier} {ts rest : List Lined} → IsQuantifier ts q rest → IsEnding ts q rest
  after_locations : {w : List ℕ} {j k : ℕ} {q : Quantifier} {ts mid rest : List Lined} → IsSkipped ts mid → IsQuantifier mid q rest → IsEnding ((Word class.LocationsWord w, j) ∷ (Sign OpenBracket, k) ∷ ts) q rest

-- ---- rows, and what stands after them

-- where the rows stop
abbrev pub is_stop : Tok → Bool
is_stop (Word class.LocationsWord w) = true
is_stop (Word class.ExistsWord w) = true
is_stop (Word class.ForallWord w) = true
is_stop (Sign Tilde) = true
is_stop _ = false

-- the tokens may begin a row
abbrev pub BeginsRow : List Lined → Type 0
BeginsRow [] = ⊥
BeginsRow (t ∷ ts) = is_stop t.0 ≡ false

pub record Body : Type 0 where
  pub rows : List (List Cell)
  pub quantifier : Quantifier

-- rows of n cells each, and the quantifier
pub data IsBody : ℕ → List Lined → Body → List Lined → Type 0 where
  ending : {n : ℕ} {q : Quantifier} {ts rest : List Lined} → IsEnding ts q rest → IsBody n ts (record { rows = []; quantifier = q }) rest
  row : {n : ℕ} {r : List Cell} {rs : List (List Cell)} {q : Quantifier} {ts mid rest : List Lined} → BeginsRow ts → IsRow n ts r mid → IsBody n mid (record { rows = rs; quantifier = q }) rest → IsBody n ts (record { rows = r ∷ rs; quantifier = q }) rest

-- ---- what the reader's cells stand for

abbrev pub cells_of : List (Bor (List Token)) → List Cell
cells_of cs = map (λ c. views c.now) cs

-- the cells of the rows in order
abbrev pub flatten : {X : Type 0} → List (List X) → List X
flatten [] = []
flatten (r ∷ rs) = r ++ flatten rs

-- rows of n + 1: the first has these cells and left + 1 more
abbrev pub rows_from : {X : Type 0} → ℕ → ℕ → List X → List X → List (List X)
rows_from n left r [] = []
rows_from n zero r (c ∷ cs) = (r ++ c ∷ []) ∷ rows_from n n [] cs
rows_from n (suc left) r (c ∷ cs) = rows_from n left (r ++ c ∷ []) cs

-- the rows, of as many cells each as there are columns, that these cells make; cells of a last row that isn't whole are
-- left out
abbrev pub rows_of : {X : Type 0} → ℕ → List X → List (List X)
rows_of columns cs = rows_from (columns - 1) (columns - 1) [] cs

-- the cells of column h, from the first row to the last
abbrev pub column_of : {X : Type 0} → ℕ → List (List X) → List X
column_of h [] = []
column_of h (r ∷ rs) = take 1 (drop h r) ++ column_of h rs
