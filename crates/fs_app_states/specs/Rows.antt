-- What the states of a log say of a test.
use Rattle.std.specs.Prelude.{◌≡◌, ◌⊎◌, ℕ, ◌==◌, Bool, true, false, not, ◌&&◌, Option, Some, option_map, option_and_then, List, [], ◌∷◌, drop, find, length, map, nat_eq, codes, if◌then◌else◌}
use Rattle.std.specs.List.{AllZip, list_any, starts_with}
use Rattle.fs_litmus_tokens.specs.Numbers.{number_of}
use Rattle.fs_model.specs.Test.{address_of}
use Rattle.fs_model.specs.declared.test.Test.{Test}
use Rattle.fs_litmus.specs.Settings.{signed}
use Rattle.fs_judge_outcomes.specs.declared.place.Place.{Place}
use Rattle.fs_judge_outcomes.specs.declared.place.Place.TheVariants.{Register, Location}
use Rattle.fs_judge_outcomes.specs.States.{ArePlacesOf}
use Rattle.fs_app_error_messages.specs.Messages.{name_text}
use Rattle.fs_app_states.specs.Names.{IsNamed}
use Rattle.fs_app_states.specs.declared.columns.Column.{Column}
use Rattle.fs_app_states.specs.declared.log.Item.{Item}
use Rattle.fs_app_states.specs.declared.log.Seen.{Seen}
use Rattle.fs_app_states.specs.declared.setting.Setting.{Setting}
use Rattle.fs_app_states.specs.Tallies.{Counted}

-- ---- values

-- the word of a number, decimal or hexadecimal, with a minus or without
unfoldable pub number_in : (text : List ℕ) → Option ℕ
number_in text =
    if starts_with nat_eq text (codes "-") then option_and_then (signed true) (number_of (drop 1 text)) else number_of text

-- the text names a location, and the word is its address
abbrev pub IsAddress : Test → (text : List ℕ) → (word : ℕ) → Type 0
IsAddress t text word = (location : ℕ) × IsNamed t text (Some (Location location)) × (word ≡ address_of location)

-- the text is a number or the name of a location, and this is its word
abbrev pub IsValue : Test → (text : List ℕ) → (word : ℕ) → Type 0
IsValue t text word = (number_in text ≡ Some word) ⊎ IsAddress t text word

-- ---- a state

abbrev pub is_place : Place → Place → Bool
is_place (Register hart reg) (Register other name) = (hart == other) && (reg == name)
is_place (Location location) (Location other) = location == other
is_place _ _ = false

-- no two of them are the same
abbrev pub are_apart : List Place → Bool
are_apart [] = true
are_apart (place ∷ places) = not (list_any (is_place place) places) && are_apart places

-- the item says this of this place
abbrev pub IsSetting : Test → Item → Setting → Type 0
IsSetting t item setting =
    IsNamed t item.place.now (Some setting.place) × IsValue t item.value.now setting.word

-- what is said of the place
abbrev pub word_at : List Setting → Place → Option ℕ
word_at settings place = option_map (λ setting. setting.word) (find (λ setting. is_place place setting.place) settings)

-- the column is of the place that the item names, under that name as messages show it
abbrev pub IsColumn : Test → Item → Column → Type 0
IsColumn t item column = IsNamed t item.place.now (Some column.place) × (column.name ≡ name_text item.place.now)

-- a column for each place that the state names, in its order; each once
pub record AreColumns (t : Test) (first : Seen) (columns : List Column) : Type 0 where
  pub each : AllZip (IsColumn t) first.items columns
  pub own : ArePlacesOf t (map (λ column. column.place) columns)
  pub once : are_apart (map (λ column. column.place) columns) ≡ true

-- the state names the places of the columns, and these are its words at them, in their order, and how often it was seen
pub record IsRow (t : Test) (columns : List Column) (seen : Seen) (row : Counted) : Type 0 where
  pub settings : List Setting
  pub are_settings : AllZip (IsSetting t) seen.items settings
  pub as_many : length settings ≡ length columns
  pub words : map Some row.0 ≡ map (λ column. word_at settings column.place) columns
  pub times : row.1 ≡ seen.times

-- the columns of the first of these states
abbrev pub AreFirstColumns : Test → List Seen → List Column → Type 0
AreFirstColumns t [] columns = columns ≡ []
AreFirstColumns t (first ∷ states) columns = AreColumns t first columns
