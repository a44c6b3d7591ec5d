-- What the section `locations [..]` of a test file lists, and the names by which the file calls registers. The section
-- is that of the first `locations` with `[` behind it below the initial values: in a text that reads as a test these two
-- stand there in a row nowhere else.
use Rattle.std.specs.Prelude.{◌≡◌, ℕ, Bool, true, false, ◌&&◌, Option, None, Some, is_none, List, [], ◌∷◌, ◌++◌, map, drop, find, codes, if◌then◌else◌}
use Rattle.std.specs.Option.{option_or}
use Rattle.std.specs.Fmt.{decimal}
use Rattle.fs_instr.specs.Registers.{register_of}
use Rattle.fs_kinds.specs.declared.fault.Fault.{Fault}
use Rattle.fs_kinds.specs.declared.fault.Fault.TheVariants.{Syntax}
use Rattle.fs_litmus.specs.Faults.{line_at}
use Rattle.fs_model.specs.declared.test.Test.{Test}
use Rattle.fs_model.specs.Numbers.{is_same}
use Rattle.fs_judge_outcomes.specs.declared.place.Place.{Place}
use Rattle.fs_litmus_tokens.specs.Numbers.{number_of}
use Rattle.fs_litmus_tokens.specs.Tokens.{Lined, Tok, Word, Sign}
use Rattle.fs_litmus_tokens.specs.declared.word.Class.TheVariants.{LocationsWord}
use Rattle.fs_litmus_tokens.specs.declared.token.Mark.TheVariants.{CloseBrace, Semicolon, Colon, OpenBracket, CloseBracket}
use Rattle.fs_app_states.specs.declared.listed.Part.{Part}
use Rattle.fs_app_states.specs.declared.listed.Part.TheVariants as part
use Rattle.fs_app_states.specs.Names.{place_of}

-- ---- the items of `locations`

abbrev pub is_brace : Tok → Bool
is_brace (Sign CloseBrace) = true
is_brace _ = false

-- the tokens behind the first `}`, which ends the initial values
abbrev pub below : List Lined → List Lined
below [] = []
below (t ∷ ts) = if is_brace t.0 then ts else below ts

abbrev pub is_locations_word : Tok → Bool
is_locations_word (Word LocationsWord w) = true
is_locations_word _ = false

abbrev pub is_bracket : Tok → Bool
is_bracket (Sign OpenBracket) = true
is_bracket _ = false

abbrev pub begins_with_bracket : List Lined → Bool
begins_with_bracket [] = false
begins_with_bracket (t ∷ ts) = is_bracket t.0

-- the tokens behind the first `locations` and `[`
abbrev pub behind : List Lined → List Lined
behind [] = []
behind (t ∷ ts) = if is_locations_word t.0 && begins_with_bracket ts then drop 1 ts else behind ts

abbrev pub part_of : Tok → Part
part_of (Sign Semicolon) = part.Between
part_of (Sign CloseBracket) = part.Last
part_of _ = part.Within

-- an item, unless it is empty
abbrev pub kept : List Lined → List (List Lined)
kept [] = []
kept (t ∷ item) = (t ∷ item) ∷ []

abbrev pub by_part : Part → List Lined → Lined → (List Lined → List (List Lined)) → List (List Lined)
by_part part.Between item t rest = kept item ++ rest []
by_part part.Last item t rest = kept item
by_part part.Within item t rest = rest (item ++ t ∷ [])

-- what stands between `;` up to `]`, where this much of an item stands before
abbrev pub items_from : (item : List Lined) → List Lined → List (List Lined)
items_from item [] = kept item
items_from item (t ∷ ts) = by_part (part_of t.0) item t (λ next. items_from next ts)

abbrev pub items_of : List Lined → List (List Lined)
items_of tokens = items_from [] (behind (below tokens))

-- each item is the name of a place, and these are the places
abbrev pub AreListed : Test → List Lined → List Place → Type 0
AreListed t tokens places = map (place_of t) (items_of tokens) ≡ map Some places

-- an item is no name of a place: the fault is of the line in which the first such item begins
abbrev pub IsItemFault : Test → List (List Lined) → Fault → Type 0
IsItemFault t items f =
    (item : List Lined) × (find (λ item. is_none (place_of t item)) items ≡ Some item) × (f ≡ Syntax (line_at item 0))

-- ---- names of registers

abbrev pub named_so : (hart reg : ℕ) → (word name : List ℕ) → Option (List ℕ)
named_so hart reg word name =
    if is_same (number_of word) (Some hart) && is_same (register_of name) (Some reg) then Some name else None

-- the name of the register, where a number of the hart, `:` and it stand here
abbrev pub named_at : (hart reg : ℕ) → Tok → Tok → Tok → Option (List ℕ)
named_at hart reg (Word class word) (Sign Colon) (Word kind name) = named_so hart reg word name
named_at hart reg _ _ _ = None

abbrev pub named_first : (hart reg : ℕ) → Tok → List Lined → Option (List ℕ)
named_first hart reg first (middle ∷ last ∷ ts) = named_at hart reg first middle.0 last.0
named_first hart reg first _ = None

-- the name by which the tokens first call the hart's register, behind the hart's number and `:`
abbrev pub first_name : (hart reg : ℕ) → List Lined → Option (List ℕ)
first_name hart reg [] = None
first_name hart reg (t ∷ ts) = option_or (named_first hart reg t.0 ts) (first_name hart reg ts)

-- the hart's number, `:`, and that name, or else the one with x
abbrev pub register_text : (hart reg : ℕ) → Option (List ℕ) → List ℕ
register_text hart reg None = decimal hart ++ (codes ":x" ++ decimal reg)
register_text hart reg (Some name) = decimal hart ++ (codes ":" ++ name)
