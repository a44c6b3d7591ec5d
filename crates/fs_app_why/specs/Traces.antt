-- An execution in print: its operations in the order in which they come to memory, what each does, which of them
-- overtake others of their hart, and how it ends.
use Rattle.std.specs.Prelude.{ℕ, ◌==◌, nat_le, Bool, ◌&&◌, Option, None, Some, option_map, List, [], ◌∷◌, ◌++◌}
use Rattle.std.specs.Prelude.{length, map, filter, codes, count_by, if◌then◌else◌}
use Rattle.std.specs.Fmt.{decimal}
use Rattle.std.specs.List.{flat_map, list_any, slice_index_or}
use Rattle.std.specs.Str.{bytes_eq}
use Rattle.fs_instr.specs.Writing.{instr_text}
use Rattle.fs_kinds.specs.declared.reason.OperationName.{OperationName as Name}
use Rattle.fs_kinds.specs.ReasonText.{operation_name}
use Rattle.fs_model.specs.declared.operation.Operation.{Operation}
use Rattle.fs_model.specs.declared.test.Location.{Location}
use Rattle.fs_model.specs.declared.test.Test.{Test}
use Rattle.fs_model.specs.Condition.{Condition, Always, Never, RegisterIs, LocationIs, Deny, Both, Either, condition_of}
use Rattle.fs_model.specs.Execution.{Execution, pre_execution}
use Rattle.fs_model.specs.Numbers.{is_same, numbers_below, stands_before}
use Rattle.fs_model.specs.Operations.{PreExecution, nothing, operations, precedes}
use Rattle.fs_model.specs.Printed.{name_of as location_name, value_text}
use Rattle.fs_model.specs.Shows.{final_register, final_word}
use Rattle.fs_model.specs.Source.{source_in}
use Rattle.fs_model.specs.Witness.{name_of}
use Rattle.fs_app_why.specs.InstructionWords.{and_joined, line_of}
use Rattle.fs_app_why.specs.declared.told_execution.Told.{Told}
use Rattle.fs_app_why.specs.Executions.{name_at, operation_at, source_at, told_of}
use Rattle.fs_app_why.specs.declared.table.Row.{Row}
use Rattle.fs_app_why.specs.Tables.{table_text}
use Rattle.fs_app_why.specs.Words.{place_text, word_text}

-- ---- which operations stand in the order the other way round than in their hart's code

-- a comes to memory before b, which is earlier in program order
abbrev pub overtakes : Told → ℕ → ℕ → Bool
overtakes told a b = precedes (operation_at told b) (operation_at told a) && stands_before told.order a b

-- all that a overtakes, and all that overtake b
abbrev pub passed : Told → ℕ → List ℕ
passed told a = filter (λ b. overtakes told a b) told.order

abbrev pub passing : Told → ℕ → List ℕ
passing told b = filter (λ a. overtakes told a b) told.order

abbrev pub is_early : Told → Option ℕ → ℕ → Bool
is_early told hart a = is_same (operation_at told a).hart hart && list_any (λ b. overtakes told a b) told.order

abbrev pub is_late : Told → Option ℕ → ℕ → Bool
is_late told hart b = is_same (operation_at told b).hart hart && list_any (λ a. overtakes told a b) told.order

-- of a hart the early ones are marked, or the late ones where these are fewer
abbrev pub marks_early : Told → Option ℕ → Bool
marks_early told hart = nat_le (count_by (is_early told hart) told.order) (count_by (is_late told hart) told.order)

abbrev pub as_list : {A : Type 0} → Option A → List A
as_list None = []
as_list (Some a) = a ∷ []

-- the operations of these numbers, each with its line
abbrev pub place_at : List (List ℕ) → Told → ℕ → List (List ℕ)
place_at lines told a = as_list (option_map (place_text lines) (name_at told a))

abbrev pub places : List (List ℕ) → Told → List ℕ → List (List ℕ)
places lines told numbers = flat_map (place_at lines told) numbers

-- nothing where there are none
abbrev pub early_text : List (List ℕ) → List ℕ
early_text pieces =
    if length pieces == 0 then [] else codes "    ^   overtakes " ++ (and_joined pieces ++ codes "\n")

abbrev pub late_text : List (List ℕ) → List ℕ
late_text pieces =
    if length pieces == 0 then [] else codes "    ^   overtaken by " ++ (and_joined pieces ++ codes "\n")

abbrev pub mark_text : List (List ℕ) → Told → ℕ → List ℕ
mark_text lines told a =
    if marks_early told (operation_at told a).hart
    then early_text (places lines told (passed told a))
    else late_text (places lines told (passing told a))

-- ---- what an operation does

-- a source without a name is an initial store
abbrev pub from_text : Option Name → List ℕ
from_text None = codes " (initial)"
from_text (Some name) = codes " from " ++ operation_name name

-- a store comes to memory later than a load of its hart that returns from it
abbrev pub buffered_text : (is_later : Bool) → List ℕ
buffered_text is_later = if is_later then codes ", still in its store buffer" else []

abbrev pub source_text : Told → (a : ℕ) → Option ℕ → List ℕ
source_text told a None = []
source_text told a (Some s) = from_text (name_at told s) ++ buffered_text (stands_before told.order a s)

abbrev pub location_text : List Location → Option ℕ → List ℕ
location_text locations None = []
location_text locations (Some address) = value_text locations address

abbrev pub stores_text : List Location → (at : List ℕ) → ℕ → List ℕ
stores_text locations at word = codes "stores " ++ (at ++ (codes "=" ++ word_text locations word))

-- of an operation at this location, with this source, by the words that it loads and stores
abbrev pub does_at : List Location → (at source : List ℕ) → (loaded stored : Option ℕ) → List ℕ
does_at locations at source None None = []
does_at locations at source (Some word) None =
    codes "reads " ++ (at ++ (codes "=" ++ (word_text locations word ++ source)))
does_at locations at source None (Some word) = stores_text locations at word
does_at locations at source (Some word) (Some other) =
    codes "reads "
    ++ (at ++ (codes "=" ++ (word_text locations word ++ (source ++ (codes ", stores " ++ word_text locations other)))))

abbrev pub does_text : List Location → Told → ℕ → List ℕ
does_text locations told a =
    does_at locations (location_text locations (operation_at told a).address) (source_text told a (source_at told a))
    (operation_at told a).loaded (operation_at told a).stored

-- ---- rows

abbrev pub row_named : Test → List (List ℕ) → Told → ℕ → Name → Row
row_named t lines told a name = record {
  name = operation_name name;
  line = codes "line " ++ decimal (line_of lines name);
  text = instr_text (operation_at told a).instr;
  does = does_text t.locations told a;
  below = mark_text lines told a;
}

abbrev pub row_of : Test → List (List ℕ) → Told → ℕ → List Row
row_of t lines told a = as_list (option_map (row_named t lines told a) (name_at told a))

abbrev pub rows : Test → List (List ℕ) → Told → List Row
rows t lines told = flat_map (row_of t lines told) told.order

-- ---- how it ends: at the places of which the condition speaks, each once

abbrev pub with_cell : List (List ℕ) → List ℕ → List (List ℕ)
with_cell cells cell = if list_any (λ other. bytes_eq other cell) cells then cells else cells ++ cell ∷ []

abbrev pub register_cell : List Location → (hart reg word : ℕ) → List ℕ
register_cell locations hart reg word =
    decimal hart ++ (codes ":x" ++ (decimal reg ++ (codes "=" ++ word_text locations word)))

abbrev pub location_cell : List Location → (location word : ℕ) → List ℕ
location_cell locations location word = location_name locations location ++ (codes "=" ++ word_text locations word)

-- behind these cells those of the condition, in a state with these words of registers and locations
abbrev pub cells_in : List Location → (ℕ → ℕ → ℕ) → (ℕ → ℕ) → List (List ℕ) → Condition → List (List ℕ)
cells_in locations register word cells Always = cells
cells_in locations register word cells Never = cells
cells_in locations register word cells (RegisterIs hart reg w) =
    with_cell cells (register_cell locations hart reg (register hart reg))
cells_in locations register word cells (LocationIs location w) =
    with_cell cells (location_cell locations location (word location))
cells_in locations register word cells (Deny c) = cells_in locations register word cells c
cells_in locations register word cells (Both c d) =
    cells_in locations register word (cells_in locations register word cells c) d
cells_in locations register word cells (Either c d) =
    cells_in locations register word (cells_in locations register word cells c) d

abbrev pub cells : Test → Execution → List (List ℕ)
cells t e =
    cells_in t.locations (final_register t e.traces) (final_word (pre_execution t e.traces) e.order) []
    (condition_of t.condition)

abbrev pub spaced : List ℕ → List ℕ
spaced cell = codes " " ++ cell

-- nothing of a condition without places
abbrev pub ends_text : List (List ℕ) → List ℕ
ends_text [] = []
ends_text (c ∷ cs) = codes "  ends so:" ++ (flat_map spaced (c ∷ cs) ++ codes "\n")

-- ---- all of it; the file has its instructions in these lines

abbrev pub trace_text : Test → List (List ℕ) → Execution → List ℕ
trace_text t lines e =
    table_text (rows t lines (told_of (pre_execution t e.traces) e.order)) ++ ends_text (cells t e)
