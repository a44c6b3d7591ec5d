-- What `audit --sites` prints, and its exit status.
use Rattle.std.specs.Prelude.{ℕ, Bool, ◌&&◌, Option, None, Some, List, [], ◌++◌, codes, fold, length, max, if◌then◌else◌}
use Rattle.std.specs.Fmt.{decimal}
use Rattle.std.specs.List.{flat_map, slice_index_or}
use Rattle.fs_instr.specs.declared.instr.Instr.TheVariants.{FenceTso}
use Rattle.fs_kinds.specs.declared.kind.Kind.{Kind as Fence}
use Rattle.fs_kinds.specs.Kind.{word}
use Rattle.fs_cert_evidence.specs.Texts.{witness_text}
use Rattle.fs_model.specs.Printed.{ended}
use Rattle.fs_model.specs.Witness.{Witness}
use Rattle.fs_sites.specs.declared.answer.Answer.{Answer}
use Rattle.fs_sites.specs.declared.answer.Answer.TheVariants as answer
use Rattle.fs_app_error_messages.specs.Messages.{name_text}
use Rattle.fs_app_io.specs.declared.status.Status.{Status}
use Rattle.fs_app_io.specs.declared.status.Status.TheVariants as status
use Rattle.fs_app_test.specs.declared.said.Kind.{Kind}
use Rattle.fs_app_test.specs.declared.said.Kind.TheVariants as verdict
use Rattle.fs_report.specs.Cells.{padded}
use Rattle.fs_app_test.specs.Report.{kind_text}
use Rattle.fs_app_audit.specs.Report.{advice_text}
use Rattle.fs_app_sites.specs.declared.content.File.{File}
use Rattle.fs_app_sites.specs.Printed.{name_at}
use Rattle.fs_app_sites_check_and_audit.specs.declared.lines.Line.{Line}
use Rattle.fs_app_sites_check_and_audit.specs.declared.marks.Mark.{Mark}
use Rattle.fs_app_sites_check_and_audit.specs.declared.marks.Row.{Row}
use Rattle.fs_app_sites_check_and_audit.specs.Lines.{advised, are_content, is_kept, lines_of}

-- what is found of the copies of sites
pub record Findings : Type 0 where
  -- the names of the sites
  pub names : List (List ℕ)
  -- the copies as they are written
  pub marks : List Mark
  -- what they cost, where copies agree
  pub written : Option ℕ
  -- each of their FENCEs costs something
  pub all_cost : Bool
  -- what is said of all files together as they are written
  pub kind : Kind
  -- the answer to the question without the copies' FENCEs
  pub found : Answer

-- ---- the first line

-- what the FENCEs cost, where copies agree
abbrev pub written_text : Option ℕ → List ℕ
written_text None = codes ", copies differ"
written_text (Some cost) = codes ", " ++ decimal cost

abbrev pub cheapest_text : Answer → List ℕ
cheapest_text (answer.Fenced p cost) = codes "cheapest " ++ decimal cost
cheapest_text (answer.None number w) = codes "no fences rule it out"

-- such as `forbidden as written, 9; cheapest 7`
abbrev pub first_line : Kind → (written : Option ℕ) → Answer → List ℕ
first_line kind written found =
    ended (kind_text kind ++ (codes " as written" ++ (written_text written ++ (codes "; " ++ cheapest_text found))))

-- ---- a line of a site

abbrev pub fence_text : Option Fence → List ℕ
fence_text None = codes "none"
fence_text (Some kind) = word kind

-- the characters of the longest name
abbrev pub width : List (List ℕ) → ℕ
width names = fold (λ most name. max most (length name)) 0 names

-- the file as messages show its name, and the line
abbrev pub row_text : List File → Row → List ℕ
row_text files row = codes " " ++ (name_text (name_at files row.file) ++ (codes ":" ++ decimal row.line))

-- the site, the fence, what is advised, and where copies have the fence
abbrev pub line_text : List File → (names : List (List ℕ)) → Line → List ℕ
line_text files names l =
    ended (padded (width names) (slice_index_or names l.site []) ++ (codes "  " ++ (padded 5 (fence_text l.fence)
    ++ (codes "  " ++ (padded 16 (advice_text FenceTso l.advice) ++ flat_map (row_text files) l.rows)))))

-- ---- the whole

-- the lines of the sites; none where no fences rule the outcomes out
abbrev pub answer_lines : Findings → Answer → List Line
answer_lines f (answer.Fenced p cost) = lines_of (length f.names) f.marks (advised (f.all_cost && is_kept f.kind f.written cost) f.marks p)
answer_lines f (answer.None number w) = []

abbrev pub found_lines : Findings → List Line
found_lines f = answer_lines f f.found

-- the file whose outcome can't be ruled out, and an execution that shows it with rw,rw at every site
abbrev pub shown_lines : (name : List ℕ) → Witness → List ℕ
shown_lines name w = name_text name ++ (codes "\n" ++ ended (witness_text w))

abbrev pub below : List File → (names : List (List ℕ)) → List Line → Answer → List ℕ
below files names lines (answer.Fenced p cost) = flat_map (line_text files names) lines
below files names lines (answer.None number w) = shown_lines (name_at files number) w.witness

abbrev pub audit_text : List File → Findings → List ℕ
audit_text files f = first_line f.kind f.written f.found ++ below files f.names (found_lines f) f.found

-- ---- the exit status

abbrev pub content_status : List Line → Answer → Status
content_status lines (answer.Fenced p cost) = if are_content lines then status.Success else status.Denied
content_status lines (answer.None number w) = status.Denied

-- 4 where all outcomes are vacuous; else 1 where one is possible, or there is something to change; else 0
abbrev pub status_by : Kind → List Line → Answer → Status
status_by verdict.Vacuous lines found = status.Vacuous
status_by verdict.Forbidden lines found = content_status lines found
status_by _ lines found = status.Denied

abbrev pub status_of : Findings → Status
status_of f = status_by f.kind (found_lines f) f.found
