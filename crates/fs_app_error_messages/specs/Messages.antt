-- What is printed of a fault beside its line.
use Rattle.std.specs.Prelude.{ℕ, ◌-◌, List, ◌++◌, Option, None, Some, codes, take, drop}
use Rattle.std.specs.Fmt.{decimal}
use Rattle.std.specs.List.{repeat}
use Rattle.fs_kinds.specs.declared.fault.Fault.{Fault}
use Rattle.fs_kinds.specs.FaultLine.{fault_line}
use Rattle.fs_litmus.specs.Title.{line_of}
use Rattle.fs_app_error_messages.specs.Places.{place_after, first_place, shown}
use Rattle.fs_app_error_messages.specs.declared.places.Place.{Place}

-- how many characters of a line are shown, and how many of them at most before the caret
abbrev pub most_shown : ℕ
most_shown = 100

abbrev pub most_before : ℕ
most_before = 60

-- how many characters at the front of a line are cut off, where the caret stands below this column
abbrev pub cut : ℕ → ℕ
cut column = column - 1 - most_before

-- the line at a place, as much of it as is shown
abbrev pub source_line : List ℕ → Place → List ℕ
source_line bytes p = take most_shown (drop (cut p.column) (shown (line_of (drop p.start bytes))))

-- so many spaces
abbrev pub spaces : ℕ → List ℕ
spaces n = repeat n (codes " ")

-- the place of the byte at an offset
abbrev pub place_of : List ℕ → ℕ → Place
place_of bytes offset = place_after first_place 0 (take offset bytes)

-- how many characters of a file's name are shown
abbrev pub most_name : ℕ
most_name = 4096

abbrev pub name_text : List ℕ → List ℕ
name_text name = take most_name (shown name)

abbrev pub at_place : Place → List ℕ
at_place p = codes ":" ++ decimal p.line ++ codes ":" ++ decimal p.column

-- the line, and below it the caret and a hint
abbrev pub source_lines : List ℕ → Place → List ℕ → List ℕ
source_lines bytes p hint = codes "  " ++ source_line bytes p ++ codes "\n  " ++ spaces (p.column - 1 - cut p.column) ++ codes "^ " ++ hint ++ codes "\n"

abbrev pub message_at : List ℕ → List ℕ → Fault → Place → List ℕ → List ℕ
message_at name bytes fault p hint = name_text name ++ at_place p ++ codes ": " ++ fault_line fault ++ codes "\n" ++ source_lines bytes p hint

-- with no place: the hint in a line of its own
abbrev pub message_of : List ℕ → Fault → List ℕ → List ℕ
message_of name fault hint = name_text name ++ codes ": " ++ fault_line fault ++ codes "\n  " ++ hint ++ codes "\n"

abbrev pub message : List ℕ → List ℕ → Fault → Option ℕ → List ℕ → List ℕ
message name bytes fault None hint = message_of name fault hint
message name bytes fault (Some offset) hint = message_at name bytes fault (place_of bytes offset) hint

-- of a file that isn't read: its name, and why
abbrev pub unread_line : List ℕ → List ℕ → List ℕ
unread_line name why = name_text name ++ codes ": " ++ why ++ codes "\n"
