-- Places of a test under their names, and a state in print.
use Rattle.std.specs.Prelude.{◌≡◌, ℕ, nat_lt, Bool, Option, None, Some, option_map, option_and_then, List, [], ◌∷◌, ◌++◌, length, map, find, codes, if◌then◌else◌}
use Rattle.std.specs.List.{zip}
use Rattle.std.specs.Str.{bytes_eq}
use Rattle.fs_instr.specs.Registers.{register_of}
use Rattle.fs_model.specs.declared.test.Location.{Location as Locations}
use Rattle.fs_model.specs.declared.test.Test.{Test}
use Rattle.fs_model.specs.Numbers.{numbers_below}
use Rattle.fs_model.specs.Printed.{ended, joined, name_of, value_text}
use Rattle.fs_judge_outcomes.specs.declared.place.Place.{Place}
use Rattle.fs_judge_outcomes.specs.declared.place.Place.TheVariants.{Register, Location}
use Rattle.fs_litmus_tokens.specs.Numbers.{number_of}
use Rattle.fs_litmus_tokens.specs.Tokens.{Lined, Tok, Word, Sign, AreTokens}
use Rattle.fs_litmus_tokens.specs.declared.token.Mark.TheVariants.{Colon, OpenBracket, CloseBracket}
use Rattle.fs_app_states.specs.declared.columns.Column.{Column}

-- ---- names

-- the hart of this number, of so many
abbrev pub hart_named : ℕ → List ℕ → Option ℕ
hart_named harts word = option_and_then (λ h. if nat_lt h harts then Some h else None) (number_of word)

-- the hart's register of this name
abbrev pub register_named : ℕ → (hart register : List ℕ) → Option Place
register_named harts hart register =
    option_and_then (λ h. option_map (Register h) (register_of register)) (hart_named harts hart)

-- the number of the first location of this name
abbrev pub number_named : List Locations → List ℕ → Option ℕ
number_named locations name = find (λ k. bytes_eq (name_of locations k) name) (numbers_below (length locations))

abbrev pub location_named : List Locations → List ℕ → Option Place
location_named locations name = option_map Location (number_named locations name)

abbrev pub location_at : Test → Tok → Option Place
location_at t (Word class name) = location_named t.locations name
location_at t _ = None

-- what stands behind a hart: `:` and a register
abbrev pub register_at : Test → List ℕ → Tok → Tok → Option Place
register_at t hart (Sign Colon) (Word class register) = register_named (length t.codes) hart register
register_at t hart _ _ = None

-- what stands behind `[`: a location and `]`
abbrev pub bracketed_at : Test → Tok → Tok → Option Place
bracketed_at t name (Sign CloseBracket) = location_at t name
bracketed_at t name _ = None

abbrev pub place_at : Test → Tok → Tok → Tok → Option Place
place_at t (Word class hart) middle last = register_at t hart middle last
place_at t (Sign OpenBracket) middle last = bracketed_at t middle last
place_at t _ _ _ = None

-- the place that the tokens name, all of them: such as `0:x7`, `x` or `[x]`
abbrev pub place_of : Test → List Lined → Option Place
place_of t (name ∷ []) = location_at t name.0
place_of t (first ∷ middle ∷ last ∷ []) = place_at t first.0 middle.0 last.0
place_of t _ = None

-- the place that a text names, where it has no open comment
abbrev pub IsNamed : Test → List ℕ → Option Place → Type 0
IsNamed t name place =
    (tokens : List Lined) × (closed : Bool) × AreTokens name 1 tokens closed
    × (place ≡ (if closed then place_of t tokens else None))

-- ---- a state in print

-- such as `0:x7=1;`: the name of the place, and its word
abbrev pub cell_text : List Locations → Column × ℕ → List ℕ
cell_text locations shown = shown.0.name ++ codes "=" ++ value_text locations shown.1 ++ codes ";"

-- the words of a state in their order, in a line
abbrev pub state_line : List Locations → List Column → List ℕ → List ℕ
state_line locations columns words = ended (joined (codes " ") (map (cell_text locations) (zip columns words)))
