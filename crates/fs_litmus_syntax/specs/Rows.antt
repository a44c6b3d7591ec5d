-- What the reader of rows and of the quantifier does, and what its values stand for.
use Rattle.std.specs.Prelude.{ℕ, ◌≤◌, zero, suc, List, [], ◌∷◌, ◌++◌, Option, Some, None, slice_range}
use Rattle.std.specs.Borrow.{Bor}
use Rattle.fs_litmus_tokens.specs.Tokens.{Tok, Lined, Word, Sign, Strange, views}
use Rattle.fs_litmus_tokens.specs.Sections.{Move, Go, Finish, Bad}
use Rattle.fs_litmus_tokens.specs.declared.word.Class.TheVariants as class
use Rattle.fs_litmus_tokens.specs.declared.token.Token.{Token}
use Rattle.fs_litmus_tokens.specs.declared.token.Mark.TheVariants.{Semicolon, Bar, OpenBracket, CloseBracket, Tilde}
use Rattle.fs_litmus_syntax.specs.declared.rows.Quantifier.{Quantifier}
use Rattle.fs_litmus_syntax.specs.declared.rows.Quantifier.TheVariants.{Exists, NotExists, Forall}
use Rattle.fs_litmus_syntax.specs.declared.rows.Tail.{Tail}
use Rattle.fs_litmus_syntax.specs.declared.rows.Tail.TheVariants.{AfterLocationsWord, InLocations, BeforeQuantifier, AfterTilde}
use Rattle.fs_litmus_syntax.specs.declared.rows.CellToken.{CellToken}
use Rattle.fs_litmus_syntax.specs.declared.rows.CellToken.TheVariants as cell_token
use Rattle.fs_litmus_syntax.specs.declared.rows.Turn as turns
use Rattle.fs_litmus_syntax.specs.declared.rows.Turn.TheVariants as turn
use Rattle.fs_litmus_syntax.specs.declared.rows.Position as positions
use Rattle.fs_litmus_syntax.specs.declared.rows.Position.TheVariants as position
use Rattle.fs_litmus_syntax.specs.declared.rows.Transition as transitions
use Rattle.fs_litmus_syntax.specs.declared.rows.Transition.TheVariants as transition
use Rattle.fs_litmus_syntax.specs.declared.rows.Body as bodies
use Rattle.fs_litmus_syntax.specs.Body.{Cell, Body, cells_of, rows_of}

-- ---- after the rows

abbrev pub quantifier_begun : Tok → Move Tail Quantifier
quantifier_begun (Word class.ExistsWord w) = Finish Exists
quantifier_begun (Word class.ForallWord w) = Finish Forall
quantifier_begun (Sign Tilde) = Go AfterTilde
quantifier_begun _ = Bad

abbrev pub rows_stopped : Tok → Option (Move Tail Quantifier)
rows_stopped (Word class.LocationsWord w) = Some (Go AfterLocationsWord)
rows_stopped (Word class.ExistsWord w) = Some (Finish Exists)
rows_stopped (Word class.ForallWord w) = Some (Finish Forall)
rows_stopped (Sign Tilde) = Some (Go AfterTilde)
rows_stopped _ = None

abbrev pub after_rows : Tail → Tok → Move Tail Quantifier
after_rows AfterLocationsWord (Sign OpenBracket) = Go InLocations
after_rows AfterLocationsWord _ = Bad
after_rows InLocations (Sign CloseBracket) = Go BeforeQuantifier
after_rows InLocations Strange = Bad
after_rows InLocations _ = Go InLocations
after_rows BeforeQuantifier t = quantifier_begun t
after_rows AfterTilde (Word class.ExistsWord w) = Finish NotExists
after_rows AfterTilde _ = Bad

-- ---- in the rows, at n + 1 columns

-- what was read last
pub data Position : Type 0 where
  BeforeRow : Position
  -- in a cell with so many cells after it in its row, and what is read of it
  InCell : (left : ℕ) → Cell → Position
  InTail : Tail → Position

-- the cells of all rows in order, and the quantifier
pub record Flat : Type 0 where
  pub cells : List Cell
  pub quantifier : Quantifier

pub record State : Type 0 where
  pub position : Position
  pub cells : List Cell

abbrev pub went_to : List Cell → Position → Move State Flat
went_to cs p = Go (record { position = p; cells = cs })

abbrev pub in_tail : List Cell → Move Tail Quantifier → Move State Flat
in_tail cs (Go p) = went_to cs (InTail p)
in_tail cs (Finish q) = Finish (record { cells = cs; quantifier = q })
in_tail cs Bad = Bad

abbrev pub bar_in : ℕ → Cell → List Cell → Move State Flat
bar_in zero c cs = Bad
bar_in (suc left) c cs = went_to (cs ++ c ∷ []) (InCell left [])

abbrev pub semicolon_in : ℕ → Cell → List Cell → Move State Flat
semicolon_in zero c cs = went_to (cs ++ c ∷ []) BeforeRow
semicolon_in (suc left) c cs = Bad

abbrev pub cell_token_of : Tok → CellToken
cell_token_of (Sign Bar) = cell_token.Bar
cell_token_of (Sign Semicolon) = cell_token.Semicolon
cell_token_of Strange = cell_token.Strange
cell_token_of _ = cell_token.Plain

abbrev pub cell_token_next : ℕ → Cell → List Cell → Lined → CellToken → Move State Flat
cell_token_next left c cs t cell_token.Plain = went_to cs (InCell left (c ++ t ∷ []))
cell_token_next left c cs t cell_token.Bar = bar_in left c cs
cell_token_next left c cs t cell_token.Semicolon = semicolon_in left c cs
cell_token_next left c cs t cell_token.Strange = Bad

abbrev pub cell_next : ℕ → Cell → List Cell → Lined → Move State Flat
cell_next left c cs t = cell_token_next left c cs t (cell_token_of t.0)

abbrev pub row_begun : ℕ → List Cell → Lined → Option (Move Tail Quantifier) → Move State Flat
row_begun n cs t None = cell_next n [] cs t
row_begun n cs t (Some m) = in_tail cs m

abbrev pub next_in : ℕ → Position → List Cell → Lined → Move State Flat
next_in n BeforeRow cs t = row_begun n cs t (rows_stopped t.0)
next_in n (InCell left c) cs t = cell_next left c cs t
next_in n (InTail p) cs t = in_tail cs (after_rows p t.0)

abbrev pub next : ℕ → State → Lined → Move State Flat
next n s t = next_in n s.position s.cells t

abbrev pub start : State
start = record { position = BeforeRow; cells = [] }

-- ---- what the reader's values stand for

abbrev pub body_of : ℕ → bodies.Body → Body
body_of columns c = record { rows = rows_of columns (cells_of c.cells.items); quantifier = c.quantifier }

abbrev pub turn_of : turns.Turn → Move Tail Quantifier
turn_of (turn.Go p) = Go p
turn_of (turn.Finish q) = Finish q
turn_of turn.Bad = Bad

abbrev pub transition_from : turns.Turn → transitions.Transition
transition_from (turn.Go p) = transition.Go (position.InTail p)
transition_from (turn.Finish q) = transition.Finish q
transition_from turn.Bad = transition.Bad

-- the state before the token at an index
abbrev pub position_of : List Token → ℕ → positions.Position → Position
position_of ts at position.BeforeRow = BeforeRow
position_of ts at (position.InCell left start) = InCell left (views (slice_range ts start at))
position_of ts at (position.InTail p) = InTail p

abbrev pub move_of : List Token → ℕ → List (Bor (List Token)) → transitions.Transition → Move State Flat
move_of ts at cs (transition.Go p) = went_to (cells_of cs) (position_of ts at p)
move_of ts at cs (transition.Finish q) = Finish (record { cells = cells_of cs; quantifier = q })
move_of ts at cs transition.Bad = Bad

-- a cell begins at or before the next token
abbrev pub IsFine : ℕ → positions.Position → Type 0
IsFine at position.BeforeRow = Unit {0}
IsFine at (position.InCell left start) = start ≤ at
IsFine at (position.InTail p) = Unit {0}

abbrev pub IsFineTransition : ℕ → transitions.Transition → Type 0
IsFineTransition at (transition.Go p) = IsFine at p
IsFineTransition at (transition.Finish q) = Unit {0}
IsFineTransition at transition.Bad = Unit {0}
