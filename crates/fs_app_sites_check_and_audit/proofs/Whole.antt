-- No object of an audit has a float.
use Rattle.std.proofs.Common.{◌≡◌, ℕ, false, List, [], ◌∷◌, map, refl}
use Rattle.serde_json.specs.Written.{has_float, items_have_float}
use Rattle.fs_cert_evidence.specs.Texts.{items_of}
use Rattle.fs_report.proofs.Depths.{no_float}
use Rattle.fs_sites.specs.declared.answer.Answer.{Answer}
use Rattle.fs_sites.specs.declared.answer.Answer.TheVariants as answer
use Rattle.fs_report.proofs.Whole.{kind_whole, number_whole}
use Rattle.fs_app_audit.specs.Advice.{advised_kind}
use Rattle.fs_app_sites.specs.declared.content.File.{File}
use Rattle.fs_app_sites_check_and_audit.specs.Objects.{audit_value, line_value, lines_value, row_value, value_by}
use Rattle.fs_app_sites_check_and_audit.specs.Printed.{Findings, found_lines}
use Rattle.fs_app_sites_check_and_audit.specs.declared.lines.Line.{Line}
use Rattle.fs_app_sites_check_and_audit.specs.declared.marks.Row.{Row}

rows_whole : (files : List File) (rows : List Row) → items_have_float (items_of (map (row_value files) rows)) ≡ false
rows_whole files [] = refl
rows_whole files (row ∷ rows) = rw (rows_whole files rows) refl

line_whole : (files : List File) (names : List (List ℕ)) (l : Line) → has_float (line_value files names l) ≡ false
line_whole files names l = rw (kind_whole (advised_kind l.fence l.advice), rows_whole files l.rows) refl

lines_whole : (files : List File) (names : List (List ℕ)) (lines : List Line)
    → items_have_float (items_of (map (line_value files names) lines)) ≡ false
lines_whole files names [] = refl
lines_whole files names (l ∷ lines) = rw (line_whole files names l, lines_whole files names lines) refl

by_answer : (files : List File) (f : Findings) (lines : List Line) (found : Answer)
    → has_float (value_by files f (lines_value files f.names lines) found) ≡ false
by_answer files f lines (answer.Fenced p cost) = rw (number_whole f.written, lines_whole files f.names lines) refl
by_answer files f lines (answer.None number w) = rw (number_whole f.written, no_float w.witness) refl

pub whole : (files : List File) (f : Findings) → has_float (audit_value files f) ≡ false
whole files f = by_answer files f (found_lines f) f.found
