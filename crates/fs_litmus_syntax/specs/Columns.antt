-- The column of a hart in rows that are written one after the other.
use Rattle.std.specs.Prelude.{ℕ, ◌-◌, zero, suc, List, [], ◌∷◌, map}
use denote.Ref.{Bor}
use Rattle.fs_litmus_tokens.specs.Tokens.{Lined, views}
use Rattle.fs_litmus_tokens.specs.declared.token.Token.{Token}

-- of rows of this many cells each, written one after the other, the cells of the column of this number
abbrev pub column : {A : Type 0} → ℕ → ℕ → List A → List A
column columns number [] = []
column columns zero (c ∷ cs) = c ∷ column columns (columns - 1) cs
column columns (suc number) (c ∷ cs) = column columns number cs

abbrev pub cells_of : List (Bor (List Token)) → List (List Lined)
cells_of cells = map (λ c. views c.now) cells
