-- The lines that `audit` prints below its first one, as values, of which its objects are made. By the law
-- `lines_are_of_rows` its text is that of these.
use Rattle.std.specs.Prelude.{ℕ, Option, None, Some, List, [], ◌∷◌}
use Rattle.std.specs.List.{enumerate_from, flat_map}
use Rattle.fs_instr.specs.declared.instr.Instr.{Instr}
use Rattle.fs_kinds.specs.declared.placement.Entry.{Entry}
use Rattle.fs_kinds.specs.declared.reason.OperationName.{OperationName}
use Rattle.fs_kinds.specs.PriceTable.{PriceTable}
use Rattle.fs_app_audit.specs.Advice.{advice_of}
use Rattle.fs_app_audit.specs.InPlace.{advice_in_place}
use Rattle.fs_app_audit.specs.Report.{line_of, line_text}
use Rattle.fs_app_audit.specs.declared.advice.Advice.{Advice}
use Rattle.fs_app_audit_json_and_why.specs.declared.rows.Row.{Row}

-- what is said of an instruction, mostly nothing
abbrev pub row_of : (line : ℕ) → OperationName → Instr → Option Advice → List Row
row_of line place i None = []
row_of line place i (Some a) = record { line = line; place = place; instr = i; advice = a } ∷ []

abbrev pub place_of : (hart at : ℕ) → OperationName
place_of hart at = record { hart = hart; at = at }

-- ---- in place

abbrev pub instruction_row : PriceTable → List (List ℕ) → List Entry → (hart : ℕ) → List Instr → ℕ × Instr → List Row
instruction_row prices lines p hart code numbered =
    row_of (line_of lines hart numbered.0) (place_of hart numbered.0) numbered.1
    (advice_in_place prices p hart code numbered.0)

abbrev pub code_rows : PriceTable → List (List ℕ) → List Entry → ℕ × List Instr → List Row
code_rows prices lines p numbered =
    flat_map (instruction_row prices lines p numbered.0 numbered.1) (enumerate_from 0 numbered.1)

abbrev pub rows_in_place : PriceTable → List (List ℕ) → List (List Instr) → List Entry → List Row
rows_in_place prices lines codes p = flat_map (code_rows prices lines p) (enumerate_from 0 codes)

-- ---- anew

abbrev pub instruction_anew : List (List ℕ) → List Entry → (hart : ℕ) → List Instr → ℕ × Instr → List Row
instruction_anew lines p hart code numbered =
    row_of (line_of lines hart numbered.0) (place_of hart numbered.0) numbered.1 (advice_of p hart code numbered.0)

abbrev pub code_anew : List (List ℕ) → List Entry → ℕ × List Instr → List Row
code_anew lines p numbered = flat_map (instruction_anew lines p numbered.0 numbered.1) (enumerate_from 0 numbered.1)

abbrev pub rows_anew : List (List ℕ) → List (List Instr) → List Entry → List Row
rows_anew lines codes p = flat_map (code_anew lines p) (enumerate_from 0 codes)

-- none where no fences rule the outcome out
abbrev pub rows_below : List (List ℕ) → List (List Instr) → Option (List Entry) → List Row
rows_below lines codes None = []
rows_below lines codes (Some p) = rows_anew lines codes p

-- ---- in print

abbrev pub row_text : Row → List ℕ
row_text row = line_text row.line row.place.hart row.place.at row.instr row.advice
