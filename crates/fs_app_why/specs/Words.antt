-- Words of a test in an explanation.
use Rattle.std.specs.Prelude.{ℕ, ◌==◌, Bool, List, [], ◌++◌, length, codes, if◌then◌else◌}
use Rattle.std.specs.Fmt.{decimal}
use Rattle.std.specs.List.{list_any}
use Rattle.fs_kinds.specs.declared.reason.OperationName.{OperationName as Name}
use Rattle.fs_kinds.specs.ReasonText.{operation_name}
use Rattle.fs_model.specs.declared.test.Location.{Location}
use Rattle.fs_model.specs.Numbers.{numbers_below}
use Rattle.fs_model.specs.Printed.{value_text}
use Rattle.fs_model.specs.Test.{address_of}
use Rattle.fs_app_why.specs.InstructionWords.{line_of}

abbrev pub is_address : List Location → ℕ → Bool
is_address locations word = list_any (λ location. address_of location == word) (numbers_below (length locations))

-- an address as `&` and the name of its location, any other word in decimal
abbrev pub word_text : List Location → ℕ → List ℕ
word_text locations word = (if is_address locations word then codes "&" else []) ++ value_text locations word

-- such as `P0:1 (line 14)`
abbrev pub place_text : List (List ℕ) → Name → List ℕ
place_text lines name = operation_name name ++ (codes " (line " ++ (decimal (line_of lines name) ++ codes ")"))
