-- Which places of a test are shown, in which order, and under which names.
use Rattle.std.specs.Prelude.{◌≡◌, ℕ, ◌==◌, Bool, true, false, ◌&&◌, ◌||◌, Some, List, [], ◌++◌, length, map, filter}
use Rattle.std.specs.List.{flat_map, list_any, slice_index_or}
use Rattle.fs_instr.specs.Instructions.{dest_of}
use Rattle.fs_kinds.specs.declared.fault.Fault.{Fault}
use Rattle.fs_litmus.specs.Reads.{HasTokens}
use Rattle.fs_model.specs.declared.test.Test.{Test}
use Rattle.fs_model.specs.Condition.{Condition, condition_of, RegisterIs, LocationIs, Deny, Both, Either}
use Rattle.fs_model.specs.Numbers.{is_same, numbers_below}
use Rattle.fs_model.specs.Printed.{name_of}
use Rattle.fs_judge_outcomes.specs.declared.place.Place.{Place}
use Rattle.fs_judge_outcomes.specs.declared.place.Place.TheVariants.{Register, Location}
use Rattle.fs_litmus_tokens.specs.Tokens.{Lined}
use Rattle.fs_app_states.specs.declared.columns.Column.{Column}
use Rattle.fs_app_states.specs.Listed.{items_of, AreListed, IsItemFault, first_name, register_text}

abbrev pub is_place : Place → Place → Bool
is_place (Register hart reg) (Register other name) = (hart == other) && (reg == name)
is_place (Location location) (Location other) = location == other
is_place _ _ = false

-- ---- what is shown

-- an atom of the condition speaks of the place
abbrev pub speaks_of : Condition → Place → Bool
speaks_of (RegisterIs hart reg word) place = is_place (Register hart reg) place
speaks_of (LocationIs location word) place = is_place (Location location) place
speaks_of (Deny c) place = speaks_of c place
speaks_of (Both c d) place = speaks_of c place || speaks_of d place
speaks_of (Either c d) place = speaks_of c place || speaks_of d place
speaks_of _ place = false

-- an instruction of the hart writes the register; any location may be written
abbrev pub may_write : Test → Place → Bool
may_write t (Register hart reg) = list_any (λ i. is_same (dest_of i) (Some reg)) (slice_index_or t.codes hart [])
may_write t (Location location) = true

-- the condition speaks of it, or `locations` lists it; or all that may be written is asked for
abbrev pub is_shown : Test → (listed : List Place) → (all : Bool) → Place → Bool
is_shown t listed all place =
    speaks_of (condition_of t.condition) place || (list_any (is_place place) listed || (all && may_write t place))

-- ---- their order and their names

-- all registers by hart and number, and then the locations in the order in which they are declared
abbrev pub all_places : (harts locations : ℕ) → List Place
all_places harts locations =
    flat_map (λ hart. map (Register hart) (numbers_below 32)) (numbers_below harts) ++ map Location (numbers_below locations)

abbrev pub shown_places : Test → (listed : List Place) → (all : Bool) → List Place
shown_places t listed all = filter (is_shown t listed all) (all_places (length t.codes) (length t.locations))

-- a register's by which the file calls it, a location's own
abbrev pub place_text : Test → List Lined → Place → List ℕ
place_text t tokens (Register hart reg) = register_text hart reg (first_name hart reg tokens)
place_text t tokens (Location location) = name_of t.locations location

abbrev pub column_of : Test → List Lined → Place → Column
column_of t tokens place = record { place = place; name = place_text t tokens place }

-- of a test file of these tokens: each place that is shown, once, with its name
pub record AreShown (t : Test) (tokens : List Lined) (all : Bool) (columns : List Column) : Type 0 where
  pub listed : List Place
  pub are_listed : AreListed t tokens listed
  pub are_columns : columns ≡ map (column_of t tokens) (shown_places t listed all)

abbrev pub AreColumns : (bytes : List ℕ) → Test → (all : Bool) → List Column → Type 0
AreColumns bytes t all columns =
    (tokens : List Lined) × (closed : Bool) × HasTokens bytes tokens closed × AreShown t tokens all columns

-- an item of `locations` is no name of a place of the test
abbrev pub IsColumnsFault : (bytes : List ℕ) → Test → Fault → Type 0
IsColumnsFault bytes t f =
    (tokens : List Lined) × (closed : Bool) × HasTokens bytes tokens closed × IsItemFault t (items_of tokens) f
