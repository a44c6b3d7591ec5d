-- What `test` prints of its files.
use Rattle.std.specs.Prelude.{ℕ, ◌==◌, Bool, true, false, max, Option, None, Some, List, [], ◌∷◌, ◌++◌, length, count_by, fold, codes, string_bytes, if◌then◌else◌}
use Rattle.std.specs.Fmt.{decimal}
use Rattle.std.specs.List.{flat_map}
use Rattle.serde_json.specs.Data.{Data, null, object, string}
use Rattle.serde_json.specs.Written.{compact_text}
use Rattle.fs_model.specs.Printed.{ended, joined}
use Rattle.fs_report.specs.Cells.{padded}
use Rattle.fs_report.specs.Nullable.{number_or_null}
use Rattle.fs_cert_evidence.specs.Texts.{members_of, witness_value}
use Rattle.fs_cert_evidence.specs.Evidence.{Shown}
use Rattle.fs_app_error_messages.specs.Messages.{name_text}
use Rattle.fs_app_test.specs.declared.said.Expected.{Expected}
use Rattle.fs_app_test.specs.declared.said.Expected.TheVariants.{Verdict, Unclear}
use Rattle.fs_app_test.specs.declared.said.Kind.{Kind}
use Rattle.fs_app_test.specs.declared.said.Kind.TheVariants as kind
use Rattle.fs_app_test.specs.declared.said.Line.{Line}
use Rattle.fs_app_test.specs.declared.said.Note.{Note}
use Rattle.fs_app_test.specs.Status.{is_kind, is_met}
use Rattle.fs_app_test.specs.Words.{counted}

-- ---- lines

-- the name of the file as messages show it
abbrev pub shown_name : Line → List ℕ
shown_name line = name_text (string_bytes line.name)

-- the characters of the longest name
abbrev pub width : List Line → ℕ
width lines = fold (λ most line. max most (length (shown_name line))) 0 lines

abbrev pub kind_text : Kind → List ℕ
kind_text kind.Forbidden = codes "forbidden"
kind_text kind.Allowed = codes "allowed"
kind_text kind.Vacuous = codes "vacuous"
kind_text kind.Faulty = codes "fault"

-- what stands before why: the kind, but where why is the line of a fault
abbrev pub label : Kind → List ℕ
label kind.Faulty = []
label k = padded 9 (kind_text k) ++ codes "  "

abbrev pub wanted_text : Kind → List ℕ
wanted_text kind.Forbidden = codes ", expected forbidden"
wanted_text kind.Allowed = codes ", expected allowed"
wanted_text kind.Vacuous = codes ", expected vacuous"
wanted_text kind.Faulty = codes ", expected fault"

-- what was expected
abbrev pub expected_text : Option Expected → List ℕ
expected_text None = codes ", nothing expected"
expected_text (Some (Verdict k)) = wanted_text k
expected_text (Some Unclear) = codes ", unclear what is expected"

-- the same where it isn't what is said
abbrev pub unmet_text : Line → List ℕ
unmet_text line = if is_met line then [] else expected_text line.expected

-- what stands behind why, where something is expected
abbrev pub mark : (expects : Bool) → Line → List ℕ
mark false line = []
mark true line = unmet_text line

-- the name of the file, what is said of it, and what was expected
abbrev pub line_text : (expects : Bool) → ℕ → Line → List ℕ
line_text expects most line =
    ended (padded most (shown_name line) ++ codes "  " ++ label line.said.kind ++ string_bytes line.said.why ++ mark expects line)

-- ---- the last line

abbrev pub count_of : Kind → List Line → ℕ
count_of k = count_by (λ line. is_kind k line.said.kind)

-- how many are of the kind, left out where none is
abbrev pub count_text : Kind → ℕ → List ℕ
count_text kind.Forbidden n = decimal n ++ codes " forbidden"
count_text kind.Allowed n = decimal n ++ codes " allowed"
count_text kind.Vacuous n = decimal n ++ codes " vacuous"
count_text kind.Faulty n = counted n (codes "fault")

abbrev pub count_piece : List Line → Kind → List (List ℕ)
count_piece lines k = if count_of k lines == 0 then [] else count_text k (count_of k lines) ∷ []

abbrev pub pieces : List Line → List (List ℕ)
pieces lines =
    count_piece lines kind.Forbidden ++ count_piece lines kind.Allowed
    ++ count_piece lines kind.Vacuous ++ count_piece lines kind.Faulty

-- how many are as expected
abbrev pub met_text : (expects : Bool) → List Line → List ℕ
met_text false lines = []
met_text true lines = codes "; " ++ decimal (count_by is_met lines) ++ codes " as expected"

-- such as `2 tests: 1 forbidden, 1 fault`
abbrev pub summary : (expects : Bool) → List Line → List ℕ
summary expects lines =
    ended (counted (length lines) (codes "test") ++ codes ": " ++ joined (codes ", ") (pieces lines) ++ met_text expects lines)

abbrev pub report_text : (expects : Bool) → List Line → List ℕ
report_text expects lines = flat_map (line_text expects (width lines)) lines ++ summary expects lines

-- ---- as JSON, with the keys in the order of their bytes

abbrev pub expected_value : Option Expected → Data
expected_value None = null
expected_value (Some (Verdict k)) = string (kind_text k)
expected_value (Some Unclear) = string (codes "unclear")

-- the members of a file, in their order, where something is expected and where nothing is
abbrev pub expected_members : (expects : Bool) → Line → List (List ℕ × Data)
expected_members false line = []
expected_members true line = (codes "expected", expected_value line.expected) ∷ []

abbrev pub file_members : Line → List (List ℕ × Data)
file_members line = (codes "file", string (string_bytes line.name)) ∷ []

abbrev pub said_members : Line → List (List ℕ × Data)
said_members line =
    (codes "verdict", string (kind_text line.said.kind)) ∷ (codes "why", string (string_bytes line.said.why)) ∷ []

abbrev pub witness_members : Option Shown → List (List ℕ × Data)
witness_members None = []
witness_members (Some shown) = (codes "witness", witness_value shown.witness) ∷ []

abbrev pub column_members : Note → List (List ℕ × Data)
column_members note = (codes "column", number_or_null note.column) ∷ []

abbrev pub note_members : Note → List (List ℕ × Data)
note_members note =
    (codes "line", number_or_null note.line)
    ∷ (codes "message", string (string_bytes note.message)) ∷ []

-- of a file without a note, with these last
abbrev pub members_with : (expects : Bool) → Line → List (List ℕ × Data) → List (List ℕ × Data)
members_with expects line last = expected_members expects line ++ (file_members line ++ (said_members line ++ last))

-- of a file with a note what that says, of another one the witness
abbrev pub members_by : (expects : Bool) → Line → Option Note → List (List ℕ × Data)
members_by expects line None = members_with expects line (witness_members line.said.witness)
members_by expects line (Some note) =
    column_members note ++ (expected_members expects line ++ (file_members line ++ (note_members note ++ said_members line)))

-- the same of a file as an object
abbrev pub line_value : (expects : Bool) → Line → Data
line_value expects line = object (members_of (members_by expects line line.note))

abbrev pub json_line : (expects : Bool) → Line → List ℕ
json_line expects line = ended (compact_text (line_value expects line))

abbrev pub json_text : (expects : Bool) → List Line → List ℕ
json_text expects = flat_map (json_line expects)
