-- Numbers in rising order.
use Rattle.std.specs.Prelude.{ℕ, ◌≤◌, List, [], ◌∷◌, map}
use Rattle.fs_litmus_tokens.specs.Tokens.{Lined}
use Rattle.fs_litmus_syntax.specs.Init.{Entry}

-- each number is at least the one before it, and the first at least this one
abbrev pub Rising : ℕ → List ℕ → Type 0
Rising low [] = Unit {0}
Rising low (n ∷ ns) = (low ≤ n) × Rising n ns

-- the lines of tokens
abbrev pub token_lines : List Lined → List ℕ
token_lines ts = map (λ t. t.1) ts

-- the lines of entries
abbrev pub entry_lines : List Entry → List ℕ
entry_lines es = map (λ e. e.line) es
