-- The tokens of a test's printed form, and the form and condition that they are.
use Rattle.std.specs.Prelude.{◌≡◌, ℕ, ◌+◌, max, List, [], ◌∷◌, ◌++◌, length, map, false, true, ◌==◌, if◌then◌else◌, codes}
use Rattle.std.specs.Fmt.{decimal}
use Rattle.std.specs.List.{flat_map, enumerate_from, range_with_len, slice_index_or}
use Rattle.fs_litmus_tokens.specs.Tokens.{Tok, Sign, Lined, word, without_lines}
use Rattle.fs_litmus_tokens.specs.Values.{Target, Register, Location, Value, Number, Address}
use Rattle.fs_litmus_tokens.specs.declared.token.Mark.TheVariants as mark
use Rattle.fs_litmus_syntax.specs.Form.{Form, IsForm}
use Rattle.fs_litmus_syntax.specs.declared.rows.Quantifier as written
use Rattle.fs_litmus_syntax.specs.declared.rows.Quantifier.TheVariants as asked
use Rattle.fs_litmus_syntax.specs.Grammar as syntax
use Rattle.fs_litmus_syntax.specs.Grammar.{Syntax, IsCondition}
use Rattle.fs_instr.specs.PrintedTokens.{instr_tokens}
use Rattle.fs_instr.specs.declared.instr.Instr.{Instr}
use Rattle.fs_model.specs.Condition as condition
use Rattle.fs_model.specs.Condition.{Condition, condition_of}
use Rattle.fs_model.specs.Printed.{set_registers, is_target, name_of}
use Rattle.fs_model.specs.Test.{address_of}
use Rattle.fs_model.specs.declared.test.Location as locations
use Rattle.fs_model.specs.declared.test.Test.{Test}
use Rattle.fs_model.specs.declared.test.Quantifier.{Quantifier}
use Rattle.fs_model.specs.declared.test.Quantifier.TheVariants.{Exists, NotExists, Forall}
use Rattle.fs_litmus.specs.Locations.{Binding}
use Rattle.fs_litmus.specs.Settings.{entry_bindings}

-- ---- values, bindings

-- a word as it is written: the name of the location that has it as its address, or its number
abbrev pub value_from : ℕ → List locations.Location → ℕ → Value
value_from location [] w = Number false (decimal w)
value_from location (x ∷ xs) w = if address_of location == w then Address x.name else value_from (location + 1) xs w

abbrev pub written_value : List locations.Location → ℕ → Value
written_value locations w = value_from 0 locations w

abbrev pub register_name : ℕ → List ℕ
register_name r = 120 ∷ decimal r

abbrev pub location_binding : locations.Location → Binding
location_binding x = (Location x.name, Number false (decimal x.word))

abbrev pub register_binding : List locations.Location → ℕ → ℕ × ℕ → Binding
register_binding locations hart numbered = (Register (decimal hart) (register_name numbered.0), written_value locations numbered.1)

abbrev pub start_bindings : List locations.Location → ℕ × List ℕ → List Binding
start_bindings locations numbered = map (register_binding locations numbered.0) (set_registers numbered.1)

-- what the block of initial values binds: each location, and then the registers that don't begin at 0
abbrev pub bindings_of : Test → List Binding
bindings_of u = map location_binding u.locations ++ flat_map (start_bindings u.locations) (enumerate_from 0 u.starts)

abbrev pub target_toks : Target → List Tok
target_toks (Register h r) = word h ∷ Sign mark.Colon ∷ word r ∷ []
target_toks (Location w) = word w ∷ []

abbrev pub value_toks : Value → List Tok
value_toks (Number false d) = word d ∷ []
value_toks (Number true d) = Sign mark.Minus ∷ word d ∷ []
value_toks (Address w) = word w ∷ []

abbrev pub binding_toks : Binding → List Tok
binding_toks b = target_toks b.0 ++ Sign mark.Equals ∷ value_toks b.1

abbrev pub entry_toks : Binding → List Tok
entry_toks b = binding_toks b ++ Sign mark.Semicolon ∷ []

-- ---- rows

abbrev pub label_toks : ℕ → List Tok
label_toks at = word (codes "L" ++ decimal at) ∷ Sign mark.Colon ∷ []

abbrev pub cell_toks : List Instr → ℕ × Instr → List Tok
cell_toks code numbered = (if is_target code numbered.0 then label_toks numbered.0 else []) ++ instr_tokens numbered.1

abbrev pub end_cells : List Instr → List (List Tok)
end_cells code = if is_target code (length code) then label_toks (length code) ∷ [] else []

abbrev pub column_toks : List Instr → List (List Tok)
column_toks code = map (cell_toks code) (enumerate_from 0 code) ++ end_cells code

-- the cells of the row of this number
abbrev pub row_cells : List (List (List Tok)) → ℕ → List (List Tok)
row_cells columns at = map (λ cells. slice_index_or cells at []) columns

abbrev pub tallest : List (List (List Tok)) → ℕ
tallest [] = 0
tallest (c ∷ cs) = max (length c) (tallest cs)

-- the rows of cells
abbrev pub rows_toks : Test → List (List (List Tok))
rows_toks u = map (row_cells (map column_toks u.codes)) (range_with_len 0 (tallest (map column_toks u.codes)))

-- cells split by bars and ended by a semicolon
abbrev pub row_toks : List (List Tok) → List Tok
row_toks [] = Sign mark.Semicolon ∷ []
row_toks (c ∷ []) = c ++ Sign mark.Semicolon ∷ []
row_toks (c ∷ d ∷ cs) = c ++ Sign mark.Bar ∷ row_toks (d ∷ cs)

abbrev pub header_cells : ℕ → List (List Tok)
header_cells harts = map (λ hart. word (codes "P" ++ decimal hart) ∷ []) (range_with_len 0 harts)

-- ---- the condition

-- the condition with a pair of parentheses round each connective
abbrev pub syntax_of : List locations.Location → Condition → Syntax
syntax_of ls condition.Always = syntax.True
syntax_of ls condition.Never = syntax.False
syntax_of ls (condition.RegisterIs hart reg w) = syntax.Atom (Register (decimal hart) (register_name reg)) (written_value ls w)
syntax_of ls (condition.LocationIs location w) = syntax.Atom (Location (name_of ls location)) (written_value ls w)
syntax_of ls (condition.Deny c) = syntax.Deny (syntax_of ls c)
syntax_of ls (condition.Both c d) = syntax.Group (syntax.Both (syntax_of ls c) (syntax_of ls d))
syntax_of ls (condition.Either c d) = syntax.Group (syntax.Either (syntax_of ls c) (syntax_of ls d))

abbrev pub syntax_toks : Syntax → List Tok
syntax_toks (syntax.Atom t v) = binding_toks (t, v)
syntax_toks syntax.True = word (codes "true") ∷ []
syntax_toks syntax.False = word (codes "false") ∷ []
syntax_toks (syntax.Deny s) = Sign mark.Tilde ∷ syntax_toks s
syntax_toks (syntax.Group s) = Sign mark.OpenParen ∷ (syntax_toks s ++ Sign mark.CloseParen ∷ [])
syntax_toks (syntax.Both a b) = syntax_toks a ++ Sign mark.And ∷ syntax_toks b
syntax_toks (syntax.Either a b) = syntax_toks a ++ Sign mark.Or ∷ syntax_toks b

abbrev pub quantifier_toks : Quantifier → List Tok
quantifier_toks Exists = word (codes "exists") ∷ []
quantifier_toks NotExists = Sign mark.Tilde ∷ word (codes "exists") ∷ []
quantifier_toks Forall = word (codes "forall") ∷ []

abbrev pub written_quantifier : Quantifier → written.Quantifier
written_quantifier Exists = asked.Exists
written_quantifier NotExists = asked.NotExists
written_quantifier Forall = asked.Forall

-- ---- the whole

-- the tokens of the printed form below its first line
abbrev pub text_toks : Test → List Tok
text_toks u =
    Sign mark.OpenBrace ∷ []
    ++ flat_map entry_toks (bindings_of u)
    ++ Sign mark.CloseBrace ∷ []
    ++ row_toks (header_cells (length u.codes))
    ++ flat_map row_toks (rows_toks u)
    ++ quantifier_toks u.quantifier
    ++ syntax_toks (syntax_of u.locations (condition_of u.condition))

-- the tokens have the form of the test's printed form
pub record HasWrittenForm (u : Test) (ts : List Lined) (form : Form) (rest : List Lined) : Type 0 where
  pub is_form : IsForm ts form rest
  pub bindings : entry_bindings form.entries ≡ bindings_of u
  pub columns : form.columns ≡ length u.codes
  pub rows : map (λ r. map without_lines r) form.rows ≡ rows_toks u
  pub quantifier : form.quantifier ≡ written_quantifier u.quantifier
  pub is_condition : IsCondition rest (syntax_of u.locations (condition_of u.condition))
