-- The site labels of a hart, cell by cell.
use Rattle.std.proofs.Common.{◌≡◌, ℕ, ◌+◌, ◌<◌, ◌≤◌, List, ◌++◌, length, drop, get_or, Bool, true, false, sym, ap, ◌∙◌, append_assoc, arith, if◌then◌else◌}
use Rattle.std.specs.Borrow.{Bor}
use Rattle.std.proofs.lemmas.List.{at_drop_more}
use Rattle.fs_litmus_tokens.specs.Tokens.{views}
use Rattle.fs_litmus_tokens.specs.declared.token.Token.{Token}
use Rattle.fs_litmus_syntax.specs.Body.{Cell, cells_of}
use Rattle.fs_litmus.specs.SiteLabels.{SiteLabel, cell_sites, has_instruction, position_after, sites_from}

one_or_none : (at : ℕ) (b : Bool) → (if b then at + 1 else at) ≤ at + 1
one_or_none at true = omega arith
one_or_none at false = omega arith

-- a cell has at most one instruction
pub position_small : (at next i : ℕ) (cell : Cell) → next ≡ position_after at cell → at ≤ i → next ≤ i + 1
position_small at next i cell e small = let one = one_or_none at (has_instruction cell) in omega (arith, e, one, small)

-- one cell more
pub sites_next : (ends : List (List ℕ)) (hart at next i : ℕ) (cells : List (Bor (List Token))) (d : Bor (List Token)) (cell : List Token) (old new total : List SiteLabel)
    → i < length cells → (get_or cells i d).now ≡ cell → next ≡ position_after at (views cell)
    → new ≡ old ++ cell_sites ends hart at (views cell)
    → old ++ sites_from ends hart at (cells_of (drop i cells)) ≡ total
    → new ++ sites_from ends hart next (cells_of (drop (i + 1) cells)) ≡ total
sites_next ends hart at next i cells d cell old new total low is e f g =
    let rest = cells_of (drop (i + 1) cells) in
    let here = at_drop_more (λ l. sites_from ends hart at (cells_of l)) cells i d low in
    ap (λ l. l ++ sites_from ends hart next rest) f
    ∙ append_assoc old (cell_sites ends hart at (views cell)) (sites_from ends hart next rest)
    ∙ ap (λ n. old ++ (cell_sites ends hart at (views cell) ++ sites_from ends hart n rest)) e
    ∙ ap (λ c. old ++ (cell_sites ends hart at (views c) ++ sites_from ends hart (position_after at (views c)) rest)) (sym is)
    ∙ ap (λ l. old ++ l) (sym here)
    ∙ g
