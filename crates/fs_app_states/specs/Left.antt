-- The tests of a log that weren't given.
use Rattle.std.specs.Prelude.{ℕ, List, [], ◌∷◌, ◌++◌, codes, if◌then◌else◌}
use Rattle.std.specs.List.{list_any}
use Rattle.std.specs.Str.{bytes_eq}
use Rattle.fs_app_error_messages.specs.Messages.{name_text}

abbrev pub left_line : (name : List ℕ) → List ℕ
left_line name = name_text name ++ codes ": in the log, and not given\n"

-- a line for each of the log's names that is none of these, and once for each
abbrev pub left_over : (names in_log : List (List ℕ)) → List ℕ
left_over names [] = []
left_over names (name ∷ in_log) =
    if list_any (bytes_eq name) names then left_over names in_log
    else left_line name ++ left_over (names ++ name ∷ []) in_log
