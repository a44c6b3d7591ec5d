-- No object of a file has a float.
use Rattle.std.proofs.Common.{◌≡◌, ℕ, None, Some, false, List, [], ◌∷◌, map, refl, if◌then◌else◌}
use Rattle.serde_json.specs.Written.{has_float, items_have_float}
use Rattle.fs_kinds.specs.declared.placement.Entry.{Entry}
use Rattle.fs_model_laws.specs.InPlace.{memory_kind}
use Rattle.fs_cert_evidence.specs.Texts.{items_of}
use Rattle.fs_report.proofs.Whole.{kind_whole, number_whole}
use Rattle.fs_app_audit.specs.Advice.{advised_kind}
use Rattle.fs_app_audit.specs.Audit.{Findings}
use Rattle.fs_app_audit_json_and_why.specs.Objects.{anew_value, cost_of, in_place_value, row_value, vacuous_value}
use Rattle.fs_app_audit_json_and_why.specs.Rows.{rows_below, rows_in_place}
use Rattle.fs_app_audit_json_and_why.specs.declared.rows.Row.{Row}

row_whole : (row : Row) → has_float (row_value row) ≡ false
row_whole row = rw (kind_whole (advised_kind (memory_kind row.instr) row.advice)) refl

rows_whole : (rows : List Row) → items_have_float (items_of (map row_value rows)) ≡ false
rows_whole [] = refl
rows_whole (row ∷ rows) = rw (row_whole row, rows_whole rows) refl

pub in_place_whole : (name : List ℕ) (f : Findings) (p : List Entry) → has_float (in_place_value name f p) ≡ false
in_place_whole name f p =
    rw (number_whole (cost_of f.prices f.best), rows_whole (rows_in_place f.prices f.lines f.test.codes p)) refl

pub anew_whole : (name : List ℕ) (f : Findings) → has_float (anew_value name f) ≡ false
anew_whole name f =
    rw (number_whole (cost_of f.prices f.best), number_whole (cost_of f.prices (if f.all then Some f.written else None)), rows_whole (rows_below f.lines f.test.codes f.best)) refl

pub vacuous_whole : (name why : List ℕ) (written : ℕ) → has_float (vacuous_value name why written) ≡ false
vacuous_whole name why written = refl
