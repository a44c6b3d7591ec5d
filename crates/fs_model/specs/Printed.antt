-- The printed form of a test, in herd7's format of litmus tests.
use Rattle.std.specs.Prelude.{ℕ, ◌+◌, List, [], ◌∷◌, ◌++◌, length, map, filter, fold, max, not, Bool, ◌==◌, if◌then◌else◌, Option, Some, None, codes}
use Rattle.std.specs.Fmt.{decimal}
use Rattle.std.specs.List.{flat_map, enumerate_from, range_with_len, list_any, join_by, slice_index_or}
use Rattle.fs_instr.specs.Instructions.{target_of}
use Rattle.fs_instr.specs.Writing.{instr_text}
use Rattle.fs_instr.specs.declared.instr.Instr.{Instr}
use Rattle.fs_model.specs.declared.test.Location.{Location}
use Rattle.fs_model.specs.declared.test.Quantifier.{Quantifier}
use Rattle.fs_model.specs.declared.test.Quantifier.TheVariants.{Exists, NotExists, Forall}
use Rattle.fs_model.specs.declared.test.Test.{Test}
use Rattle.fs_model.specs.Condition.{Condition, condition_of, Always, Never, RegisterIs, LocationIs, Deny, Both, Either}
use Rattle.fs_model.specs.Test.{address_of}

abbrev pub joined : List ℕ → List (List ℕ) → List ℕ
joined separator pieces = join_by (λ piece. piece) separator pieces

-- the line, ended by LF
abbrev pub ended : List ℕ → List ℕ
ended line = line ++ 10 ∷ []

-- no line where there is nothing to print
abbrev pub line_of : List (List ℕ) → List ℕ
line_of [] = []
line_of (piece ∷ pieces) = ended (joined (codes " ") (piece ∷ pieces))

-- ---- values and initial words

abbrev pub name_of : List Location → ℕ → List ℕ
name_of locations location = slice_index_or (map (λ x. x.name) locations) location []

abbrev pub value_from : ℕ → List Location → ℕ → List ℕ
value_from location [] word = decimal word
value_from location (x ∷ xs) word = if address_of location == word then x.name else value_from (location + 1) xs word

-- a location's address as its name, any other word as a number
abbrev pub value_text : List Location → ℕ → List ℕ
value_text locations word = value_from 0 locations word

abbrev pub location_text : Location → List ℕ
location_text x = x.name ++ codes "=" ++ decimal x.word ++ codes ";"

abbrev pub locations_text : List Location → List ℕ
locations_text locations = line_of (map location_text locations)

abbrev pub register_is : List Location → ℕ → ℕ × ℕ → List ℕ
register_is locations hart numbered =
    decimal hart ++ codes ":x" ++ decimal numbered.0 ++ codes "=" ++ value_text locations numbered.1

-- the registers that don't begin at 0, each with its number, rising
abbrev pub set_registers : List ℕ → List (ℕ × ℕ)
set_registers start = filter (λ numbered. not (numbered.1 == 0)) (enumerate_from 0 start)

abbrev pub register_text : List Location → ℕ → ℕ × ℕ → List ℕ
register_text locations hart numbered = register_is locations hart numbered ++ codes ";"

abbrev pub start_text : List Location → ℕ × List ℕ → List ℕ
start_text locations numbered = line_of (map (register_text locations numbered.0) (set_registers numbered.1))

abbrev pub starts_text : List Location → List (List ℕ) → List ℕ
starts_text locations starts = flat_map (start_text locations) (enumerate_from 0 starts)

-- ---- the columns of code

-- a branch or a jump of the code goes to this position
abbrev pub goes_to : ℕ → Option ℕ → Bool
goes_to at None = Bool.false
goes_to at (Some target) = target == at

abbrev pub is_target : List Instr → ℕ → Bool
is_target code at = list_any (λ i. goes_to at (target_of i)) code

abbrev pub label : ℕ → List ℕ
label at = codes "L" ++ decimal at ++ codes ":"

abbrev pub cell : List Instr → ℕ × Instr → List ℕ
cell code numbered = (if is_target code numbered.0 then label numbered.0 ++ codes " " else []) ++ instr_text numbered.1

-- a label at the end of the code has a cell of its own
abbrev pub end_cells : List Instr → List (List ℕ)
end_cells code = if is_target code (length code) then label (length code) ∷ [] else []

abbrev pub column : List Instr → List (List ℕ)
column code = map (cell code) (enumerate_from 0 code) ++ end_cells code

abbrev pub header : ℕ → List ℕ
header harts = joined (codes " | ") (map (λ hart. codes "P" ++ decimal hart) (range_with_len 0 harts)) ++ codes " ;"

-- a column that ends before this row has an empty cell in it
abbrev pub row : List (List (List ℕ)) → ℕ → List ℕ
row columns at = joined (codes " | ") (map (λ cells. slice_index_or cells at []) columns) ++ codes " ;"

abbrev pub height : List (List (List ℕ)) → ℕ
height columns = fold (λ rows cells. max rows (length cells)) 0 columns

abbrev pub rows_text : List (List (List ℕ)) → List ℕ
rows_text columns = flat_map (λ at. ended (row columns at)) (range_with_len 0 (height columns))

-- ---- the condition

abbrev pub quantifier_text : Quantifier → List ℕ
quantifier_text Exists = codes "exists"
quantifier_text NotExists = codes "~exists"
quantifier_text Forall = codes "forall"

abbrev pub condition_text : List Location → Condition → List ℕ
condition_text locations Always = codes "true"
condition_text locations Never = codes "false"
condition_text locations (RegisterIs hart reg word) = register_is locations hart (reg, word)
condition_text locations (LocationIs location word) = name_of locations location ++ codes "=" ++ value_text locations word
condition_text locations (Deny c) = codes "~" ++ condition_text locations c
condition_text locations (Both c d) = codes "(" ++ condition_text locations c ++ codes " /\\ " ++ condition_text locations d ++ codes ")"
condition_text locations (Either c d) = codes "(" ++ condition_text locations c ++ codes " \\/ " ++ condition_text locations d ++ codes ")"

-- ---- the whole

unfoldable pub printed : Test → List ℕ
printed t =
    ended (codes "RISCV " ++ t.name)
    ++ ended (codes "{")
    ++ locations_text t.locations
    ++ starts_text t.locations t.starts
    ++ ended (codes "}")
    ++ ended (header (length t.codes))
    ++ rows_text (map column t.codes)
    ++ ended (quantifier_text t.quantifier ++ codes " " ++ condition_text t.locations (condition_of t.condition))
