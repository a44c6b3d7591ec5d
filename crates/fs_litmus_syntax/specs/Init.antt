-- The block of initial values (herd7's format of litmus tests).
-- L ts a rest says that the tokens ts are an L that means a, and then rest.
use Rattle.std.specs.Prelude.{◌≡◌, ℕ, List, [], ◌∷◌, ◌++◌, Option, Some, None, true, false, map, codes}
use Rattle.fs_litmus_tokens.specs.Words.{is_name}
use Rattle.fs_litmus_tokens.specs.Tokens.{Tok, Lined, Word, Sign}
use Rattle.fs_litmus_tokens.specs.declared.word.Class.{Class}
use Rattle.fs_litmus_tokens.specs.declared.word.Class.TheVariants as class
use Rattle.fs_litmus_tokens.specs.declared.token.Mark.TheVariants.{OpenBrace, CloseBrace, Semicolon, Colon, Equals, OpenBracket, CloseBracket, Minus, Star, Ampersand}
use Rattle.fs_litmus_tokens.specs.Values.{Target, Register, Location, Value, Number, Address, IsTarget, IsValue, target_of, value_of}
use Rattle.fs_litmus_tokens.specs.Sections.{Move, Go, Finish, Bad}
use Rattle.fs_litmus_syntax.specs.declared.init.Entry as entries
use Rattle.fs_litmus_syntax.specs.declared.init.Position as positions
use Rattle.fs_litmus_syntax.specs.declared.init.Position.TheVariants as position
use Rattle.fs_litmus_syntax.specs.declared.init.Transition as transitions
use Rattle.fs_litmus_syntax.specs.declared.init.Transition.TheVariants as transition

-- an initial value, and the line of the first token of its target
pub record Entry : Type 0 where
  pub line : ℕ
  pub target : Target
  pub value : Value

-- the value of a target that is given none
abbrev pub unset : ℕ → Target → Entry
unset line x = record { line = line; target = x; value = Number false (codes "0") }

-- a value; or & and a name, which means that location's address too
pub data IsInitial : List Lined → Value → List Lined → Type 0 where
  direct : {v : Value} {ts rest : List Lined} → IsValue ts v rest → IsInitial ts v rest
  reference : {w : List ℕ} {c : Class} {j k : ℕ} {rest : List Lined} → is_name c ≡ true → IsInitial ((Sign Ampersand, j) ∷ (Word c w, k) ∷ rest) (Address w) rest

-- a target, =, a value; or a target alone, whose value is 0
pub data IsBare : List Lined → Entry → List Lined → Type 0 where
  bare : {t : Tok} {line k : ℕ} {x : Target} {v : Value} {ts mid rest : List Lined} → IsTarget ((t, line) ∷ ts) x ((Sign Equals, k) ∷ mid) → IsInitial mid v rest → IsBare ((t, line) ∷ ts) (record { line = line; target = x; value = v }) rest
  alone : {t : Tok} {line : ℕ} {x : Target} {ts rest : List Lined} → IsTarget ((t, line) ∷ ts) x rest → IsBare ((t, line) ∷ ts) (unset line x) rest

-- a type may stand before it, and has no effect: names, each with * behind it or without
pub data IsEntry : List Lined → Entry → List Lined → Type 0 where
  untyped : {e : Entry} {ts rest : List Lined} → IsBare ts e rest → IsEntry ts e rest
  typed : {w : List ℕ} {c : Class} {k : ℕ} {e : Entry} {ts rest : List Lined} → is_name c ≡ true → IsEntry ts e rest → IsEntry ((Word c w, k) ∷ ts) e rest
  pointer : {w : List ℕ} {c : Class} {j k : ℕ} {e : Entry} {ts rest : List Lined} → is_name c ≡ true → IsEntry ts e rest → IsEntry ((Word c w, j) ∷ (Sign Star, k) ∷ ts) e rest

-- entries ended by semicolons, of which the last may be missing, and the closing brace
mutual
  pub data IsEntries : List Lined → List Entry → List Lined → Type 0 where
    none : {k : ℕ} {rest : List Lined} → IsEntries ((Sign CloseBrace, k) ∷ rest) [] rest
    entry : {e : Entry} {es : List Entry} {ts mid rest : List Lined} → IsEntry ts e mid → IsEntryEnd mid es rest → IsEntries ts (e ∷ es) rest

  pub data IsEntryEnd : List Lined → List Entry → List Lined → Type 0 where
    brace : {k : ℕ} {rest : List Lined} → IsEntryEnd ((Sign CloseBrace, k) ∷ rest) [] rest
    semicolon : {k : ℕ} {es : List Entry} {ts rest : List Lined} → IsEntries ts es rest → IsEntryEnd ((Sign Semicolon, k) ∷ ts) es rest

pub data IsInit : List Lined → List Entry → List Lined → Type 0 where
  block : {k : ℕ} {es : List Entry} {ts rest : List Lined} → IsEntries ts es rest → IsInit ((Sign OpenBrace, k) ∷ ts) es rest

-- ---- what the reader's values stand for

abbrev pub entry_of : entries.Entry → Entry
entry_of e = record { line = e.line; target = target_of e.target; value = value_of e.value }

abbrev pub entries_of : List entries.Entry → List Entry
entries_of es = map entry_of es

-- ---- what the reader does

-- what was read last
pub data Position : Type 0 where
  BeforeBrace : Position
  BeforeEntry : Position
  AfterStar : Position
  -- a name, which may be that of a type
  AfterName : (line : ℕ) → (w : List ℕ) → Position
  AfterHart : (line : ℕ) → (hart : List ℕ) → Position
  AfterColon : (line : ℕ) → (hart : List ℕ) → Position
  AfterBracket : (line : ℕ) → Position
  AfterBracketedName : (line : ℕ) → (name : List ℕ) → Position
  AfterTarget : (line : ℕ) → Target → Position
  AfterEquals : (line : ℕ) → Target → Position
  AfterMinus : (line : ℕ) → Target → Position
  AfterAmpersand : (line : ℕ) → Target → Position
  AfterValue : Entry → Position

-- what a token does that ends no entry
abbrev pub Turn : Type 0
Turn = Move Position (Unit {0})

abbrev pub target_begun : Lined → Turn
target_begun (Word class.Number h, k) = Go (AfterHart k h)
target_begun (Word class.Other w, k) = Bad
target_begun (Word c w, k) = Go (AfterName k w)
target_begun (Sign OpenBracket, k) = Go (AfterBracket k)
target_begun _ = Bad

abbrev pub entry_begun : Lined → Turn
entry_begun (Sign CloseBrace, k) = Finish tt
entry_begun t = target_begun t

abbrev pub bracket_followed : ℕ → Tok → Turn
bracket_followed line (Word class.Number w) = Bad
bracket_followed line (Word class.Other w) = Bad
bracket_followed line (Word c w) = Go (AfterBracketedName line w)
bracket_followed line _ = Bad

abbrev pub target_followed : Position → Tok → Turn
target_followed (AfterHart line h) (Sign Colon) = Go (AfterColon line h)
target_followed (AfterColon line h) (Word c r) = Go (AfterTarget line (Register h r))
target_followed (AfterBracket line) t = bracket_followed line t
target_followed (AfterBracketedName line w) (Sign CloseBracket) = Go (AfterTarget line (Location w))
target_followed _ _ = Bad

abbrev pub valued : ℕ → Target → Value → Turn
valued line x v = Go (AfterValue (record { line = line; target = x; value = v }))

abbrev pub value_begun : ℕ → Target → Tok → Turn
value_begun line x (Word class.Number d) = valued line x (Number false d)
value_begun line x (Word class.Other w) = Bad
value_begun line x (Word c w) = valued line x (Address w)
value_begun line x (Sign Minus) = Go (AfterMinus line x)
value_begun line x (Sign Ampersand) = Go (AfterAmpersand line x)
value_begun line x _ = Bad

abbrev pub minus_followed : ℕ → Target → Tok → Turn
minus_followed line x (Word class.Number d) = valued line x (Number true d)
minus_followed line x _ = Bad

abbrev pub ampersand_followed : ℕ → Target → Tok → Turn
ampersand_followed line x (Word class.Number w) = Bad
ampersand_followed line x (Word class.Other w) = Bad
ampersand_followed line x (Word c w) = valued line x (Address w)
ampersand_followed line x _ = Bad

abbrev pub brace_expected : Tok → Turn
brace_expected (Sign OpenBrace) = Go BeforeEntry
brace_expected _ = Bad

pub record State : Type 0 where
  pub position : Position
  pub entries : List Entry

-- with the entries so far
abbrev pub at_entries : List Entry → Turn → Move State (List Entry)
at_entries es (Go p) = Go (record { position = p; entries = es })
at_entries es (Finish u) = Finish es
at_entries es Bad = Bad

abbrev pub entry_ended : Entry → List Entry → Tok → Move State (List Entry)
entry_ended e es (Sign Semicolon) = Go (record { position = BeforeEntry; entries = es ++ e ∷ [] })
entry_ended e es (Sign CloseBrace) = Finish (es ++ e ∷ [])
entry_ended e es _ = Bad

abbrev pub target_ended : ℕ → Target → List Entry → Tok → Move State (List Entry)
target_ended line x es (Sign Equals) = at_entries es (Go (AfterEquals line x))
target_ended line x es t = entry_ended (unset line x) es t

-- behind the name of a type, where the token may stand there
abbrev pub type_followed : Lined → Option Turn
type_followed (Word c v, k) = Some (target_begun (Word c v, k))
type_followed (Sign OpenBracket, k) = Some (target_begun (Sign OpenBracket, k))
type_followed (Sign Star, k) = Some (Go AfterStar)
type_followed t = None

abbrev pub turned_or : Option Turn → List Entry → Move State (List Entry) → Move State (List Entry)
turned_or None es otherwise = otherwise
turned_or (Some t) es otherwise = at_entries es t

-- a name is that of a type where a target or * follows
abbrev pub name_followed : ℕ → List ℕ → List Entry → Lined → Move State (List Entry)
name_followed line w es t = turned_or (type_followed t) es (target_ended line (Location w) es t.0)

abbrev pub next_in : Position → List Entry → Lined → Move State (List Entry)
next_in BeforeBrace es t = at_entries es (brace_expected t.0)
next_in BeforeEntry es t = at_entries es (entry_begun t)
next_in AfterStar es t = at_entries es (target_begun t)
next_in (AfterName line w) es t = name_followed line w es t
next_in (AfterTarget line x) es t = target_ended line x es t.0
next_in (AfterEquals line x) es t = at_entries es (value_begun line x t.0)
next_in (AfterMinus line x) es t = at_entries es (minus_followed line x t.0)
next_in (AfterAmpersand line x) es t = at_entries es (ampersand_followed line x t.0)
next_in (AfterValue e) es t = entry_ended e es t.0
next_in p es t = at_entries es (target_followed p t.0)

abbrev pub next : State → Lined → Move State (List Entry)
next s t = next_in s.position s.entries t

abbrev pub start : State
start = record { position = BeforeBrace; entries = [] }

abbrev pub position_of : positions.Position → Position
position_of position.BeforeBrace = BeforeBrace
position_of position.BeforeEntry = BeforeEntry
position_of position.AfterStar = AfterStar
position_of (position.AfterName line w) = AfterName line w.now
position_of (position.AfterHart line h) = AfterHart line h.now
position_of (position.AfterColon line h) = AfterColon line h.now
position_of (position.AfterBracket line) = AfterBracket line
position_of (position.AfterBracketedName line w) = AfterBracketedName line w.now
position_of (position.AfterTarget line x) = AfterTarget line (target_of x)
position_of (position.AfterEquals line x) = AfterEquals line (target_of x)
position_of (position.AfterMinus line x) = AfterMinus line (target_of x)
position_of (position.AfterAmpersand line x) = AfterAmpersand line (target_of x)
position_of (position.AfterValue e) = AfterValue (entry_of e)

abbrev pub turn_of : transitions.Transition → Turn
turn_of (transition.Go p) = Go (position_of p)
turn_of transition.Finish = Finish tt
turn_of transition.Bad = Bad

abbrev pub move_of : transitions.Transition → List entries.Entry → Move State (List Entry)
move_of s es = at_entries (entries_of es) (turn_of s)
