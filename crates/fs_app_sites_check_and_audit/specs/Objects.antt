-- What `audit --sites` finds as JSON, with the keys in the order of their bytes.
use Rattle.std.specs.Prelude.{ℕ, Bool, true, false, Option, List, [], ◌∷◌, codes, map}
use Rattle.std.specs.List.{slice_index_or}
use Rattle.serde_json.specs.Data.{Data, null, object, string}
use Rattle.fs_instr.specs.declared.instr.Instr.TheVariants.{FenceTso}
use Rattle.fs_cert_evidence.specs.Texts.{array_of, members_of, number, witness_value}
use Rattle.fs_model.specs.Witness.{Witness}
use Rattle.fs_report.specs.Objects.{json_line}
use Rattle.fs_report.specs.Nullable.{kind_or_null, number_or_null}
use Rattle.fs_sites.specs.declared.answer.Answer.{Answer}
use Rattle.fs_sites.specs.declared.answer.Answer.TheVariants as answer
use Rattle.fs_app_test.specs.declared.said.Kind.{Kind}
use Rattle.fs_app_test.specs.Report.{kind_text}
use Rattle.fs_app_audit.specs.Report.{advice_text}
use Rattle.fs_app_audit.specs.Advice.{advised_kind}
use Rattle.fs_app_sites.specs.declared.content.File.{File}
use Rattle.fs_app_sites.specs.Printed.{name_at}
use Rattle.fs_app_sites_check_and_audit.specs.declared.lines.Line.{Line}
use Rattle.fs_app_sites_check_and_audit.specs.declared.marks.Row.{Row}
use Rattle.fs_app_sites_check_and_audit.specs.Printed.{Findings, audit_text, fence_text, found_lines}

-- ---- a line of a site

abbrev pub row_value : List File → Row → Data
row_value files row = object (members_of (
    (codes "file", string (name_at files row.file)) ∷ (codes "line", number row.line) ∷ []))

abbrev pub line_value : List File → (names : List (List ℕ)) → Line → Data
line_value files names l = object (members_of (
    (codes "advised", kind_or_null (advised_kind l.fence l.advice))
    ∷ (codes "places", array_of (map (row_value files) l.rows))
    ∷ (codes "says", string (advice_text FenceTso l.advice))
    ∷ (codes "site", string (slice_index_or names l.site []))
    ∷ (codes "written", string (fence_text l.fence)) ∷ []))

abbrev pub lines_value : List File → (names : List (List ℕ)) → List Line → Data
lines_value files names lines = array_of (map (line_value files names) lines)

-- ---- the whole

abbrev pub fenced_value : (cheapest : ℕ) → (lines : Data) → Kind → (written : Option ℕ) → Data
fenced_value cheapest lines kind written = object (members_of (
    (codes "cheapest", number cheapest)
    ∷ (codes "lines", lines)
    ∷ (codes "verdict", string (kind_text kind))
    ∷ (codes "written", number_or_null written) ∷ []))

-- where no fences rule the outcomes out
abbrev pub none_value : (name : List ℕ) → Witness → Kind → (written : Option ℕ) → Data
none_value name w kind written = object (members_of (
    (codes "cheapest", null)
    ∷ (codes "file", string name)
    ∷ (codes "verdict", string (kind_text kind))
    ∷ (codes "witness", witness_value w)
    ∷ (codes "written", number_or_null written) ∷ []))

abbrev pub value_by : List File → Findings → (sites : Data) → Answer → Data
value_by files f sites (answer.Fenced p cost) = fenced_value cost sites f.kind f.written
value_by files f sites (answer.None number w) = none_value (name_at files number) w.witness f.kind f.written

abbrev pub audit_value : List File → Findings → Data
audit_value files f = value_by files f (lines_value files f.names (found_lines f)) f.found

-- in lines, or as an object in a line
abbrev pub shown_text : (is_json : Bool) → List File → Findings → List ℕ
shown_text false files f = audit_text files f
shown_text true files f = json_line (audit_value files f)
