-- What `solve --sites` prints.
use Rattle.std.specs.Prelude.{ℕ, ◌==◌, nat_lt, if◌then◌else◌, Bool, true, false, ◌&&◌, Option, None, Some, List, [], ◌∷◌, ◌++◌, codes, length, string_bytes, option_map, unwrap_or, slice_get}
use Rattle.std.specs.Fmt.{decimal}
use Rattle.std.specs.List.{after_first, before_first, position_or_len}
use Rattle.serde_json.specs.Data.{Data, object, string}
use Rattle.fs_kinds.specs.declared.kind.Kind.{Kind}
use Rattle.fs_kinds.specs.declared.placement.Entry.{Entry}
use Rattle.fs_kinds.specs.Kind.{word}
use Rattle.fs_model.specs.Witness.{Witness}
use Rattle.fs_cert_evidence.specs.Texts.{array_of, line, members_of, number, witness_text, witness_value}
use Rattle.fs_report.specs.Objects.{json_line}
use Rattle.fs_app_error_messages.specs.Messages.{name_text}
use Rattle.fs_app_io.specs.declared.status.Status.{Status}
use Rattle.fs_app_io.specs.declared.status.Status.TheVariants.{Success, Denied}
use Rattle.fs_sites.specs.declared.answer.Answer.{Answer}
use Rattle.fs_sites.specs.declared.answer.Answer.TheVariants as answer
use Rattle.fs_app_sites.specs.declared.content.File.{File}
use Rattle.fs_app_sites.specs.declared.content.Tests.{Tests}

-- the name of the file of this number
abbrev pub name_at : List File → ℕ → List ℕ
name_at files number = unwrap_or (option_map (λ file. string_bytes file.name) (slice_get files number)) []

-- ---- lines

-- each slot of one test is a site: what is printed is in the form of an answer of slots
abbrev pub is_alone : Tests → Bool
is_alone tests = tests.is_free && (length tests.files == 1)

abbrev pub is_colon : ℕ → Bool
is_colon b = b == 58

-- a colon stands in it: the name of a slot has one, and that of a label none
abbrev pub has_colon : List ℕ → Bool
has_colon name = nat_lt (position_or_len is_colon name) (length name)

-- a site whose name has a colon, which is its slot's, as `fence P0 3`; or behind the name of a file, which is shown as
-- messages show it
abbrev pub own_place : (is_alone : Bool) → List ℕ → List ℕ
own_place true name = codes "fence " ++ before_first is_colon name ++ codes " " ++ after_first is_colon name
own_place false name = codes "site " ++ name_text name

-- the site in words, as `site lock`
abbrev pub place_text : (is_alone : Bool) → List ℕ → List ℕ
place_text is_alone name = if has_colon name then own_place is_alone name else codes "site " ++ name

-- a line for a site that has a fence, as `site lock r,r`
abbrev pub site_line : (is_alone : Bool) → List ℕ → Option Kind → List ℕ
site_line is_alone name None = []
site_line is_alone name (Some kind) = line (place_text is_alone name ++ codes " " ++ word kind)

-- those of the entries of a placement, in order, whose sites have these names
abbrev pub sites_lines : (is_alone : Bool) → List Entry → List (List ℕ) → List ℕ
sites_lines is_alone [] names = []
sites_lines is_alone (e ∷ p) [] = []
sites_lines is_alone (e ∷ p) (name ∷ names) = site_line is_alone name e.kind ++ sites_lines is_alone p names

-- `fenced`, the cost, and the sites that have a fence
abbrev pub fenced_lines : (is_alone : Bool) → ℕ → List (List ℕ) → List Entry → List ℕ
fenced_lines is_alone cost names p = line (codes "fenced " ++ decimal cost) ++ sites_lines is_alone p names

-- the file as messages show its name, unless it is the one of an answer of slots
abbrev pub file_line : (is_alone : Bool) → List ℕ → List ℕ
file_line true name = []
file_line false name = line (name_text name)

-- `none`, the file, and an execution that shows the outcome with rw,rw at every site
abbrev pub none_lines : (is_alone : Bool) → List ℕ → Witness → List ℕ
none_lines is_alone name w = codes "none\n" ++ (file_line is_alone name ++ line (witness_text w))

abbrev pub lines_of : Tests → List (List ℕ) → Answer → List ℕ
lines_of tests names (answer.Fenced p cost) = fenced_lines (is_alone tests) cost names p
lines_of tests names (answer.None number w) = none_lines (is_alone tests) (name_at tests.files number) w.witness

-- ---- JSON, with the keys in the order of their bytes

abbrev pub site_value : List ℕ → Kind → Data
site_value name kind = object (members_of ((codes "kind", string (word kind)) ∷ (codes "site", string name) ∷ []))

abbrev pub site_values : List ℕ → Option Kind → List Data
site_values name None = []
site_values name (Some kind) = site_value name kind ∷ []

abbrev pub sites_values : List Entry → List (List ℕ) → List Data
sites_values [] names = []
sites_values (e ∷ p) [] = []
sites_values (e ∷ p) (name ∷ names) = site_values name e.kind ++ sites_values p names

abbrev pub fenced_value : ℕ → List (List ℕ) → List Entry → Data
fenced_value cost names p = object (members_of (
    (codes "answer", string (codes "fenced"))
    ∷ (codes "cost", number cost)
    ∷ (codes "sites", array_of (sites_values p names))
    ∷ []))

abbrev pub none_value : List ℕ → Witness → Data
none_value name w = object (members_of (
    (codes "answer", string (codes "none")) ∷ (codes "file", string name) ∷ (codes "witness", witness_value w) ∷ []))

abbrev pub value_of : Tests → List (List ℕ) → Answer → Data
value_of tests names (answer.Fenced p cost) = fenced_value cost names p
value_of tests names (answer.None number w) = none_value (name_at tests.files number) w.witness

-- ---- the whole

-- the answer in lines, or its object in a line
abbrev pub answer_text : (is_json : Bool) → Tests → List (List ℕ) → Answer → List ℕ
answer_text false tests names a = lines_of tests names a
answer_text true tests names a = json_line (value_of tests names a)

abbrev pub status_of : Answer → Status
status_of (answer.Fenced p cost) = Success
status_of (answer.None number w) = Denied
