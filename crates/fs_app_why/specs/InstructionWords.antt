-- Words of a test in an explanation.
use Rattle.std.specs.Prelude.{ℕ, ◌+◌, ◌==◌, Option, None, Some, List, [], ◌++◌, length, codes, slice_get, if◌then◌else◌}
use Rattle.std.specs.List.{enumerate_from, flat_map, slice_index_or}
use Rattle.fs_instr.specs.declared.instr.Instr.{Instr}
use Rattle.fs_instr.specs.Writing.{instr_text}
use Rattle.fs_kinds.specs.declared.reason.OperationName.{OperationName as Name}
use Rattle.fs_model.specs.declared.test.Test.{Test}

-- the line of the file in which instruction `at` of the hart stands
abbrev pub line_of : List (List ℕ) → Name → ℕ
line_of lines name = slice_index_or (slice_index_or lines name.hart []) name.at 0

-- the instruction in print, if there is one
abbrev pub text_of_instr : Option Instr → List ℕ
text_of_instr None = []
text_of_instr (Some instr) = instr_text instr

-- the instruction of the operation, if there is one
abbrev pub instr_named : Test → Name → Option Instr
instr_named t name = slice_get (slice_index_or t.codes name.hart []) name.at

-- ---- several in one text: commas between them, and `and` before the last

abbrev pub separator : (number count : ℕ) → List ℕ
separator number count = if number == 0 then [] else if number + 1 == count then codes " and " else codes ", "

abbrev pub separated : ℕ → ℕ × List ℕ → List ℕ
separated count numbered = separator numbered.0 count ++ numbered.1

abbrev pub and_joined : List (List ℕ) → List ℕ
and_joined pieces = flat_map (separated (length pieces)) (enumerate_from 0 pieces)
