-- No object of a file has a float.
use Rattle.std.proofs.Common.{◌≡◌, Bool, true, Option, None, Some, false, refl}
use Rattle.serde_json.specs.Written.{has_float, members_have_float}
use Rattle.fs_cert_evidence.specs.Texts.{members_of}
use Rattle.fs_cert_evidence.specs.Evidence.{Shown}
use Rattle.fs_report.proofs.Depths.{no_float}
use Rattle.fs_report.proofs.Whole.{number_whole}
use Rattle.fs_app_test.specs.declared.said.Expected.{Expected}
use Rattle.fs_app_test.specs.declared.said.Expected.TheVariants.{Verdict, Unclear}
use Rattle.fs_app_test.specs.declared.said.Line.{Line}
use Rattle.fs_app_test.specs.declared.said.Note.{Note}
use Rattle.fs_app_test.specs.Report.{expected_value, line_value, members_by, witness_members}

members_whole : (found : Option Shown) → members_have_float (members_of (witness_members found)) ≡ false
members_whole None = refl
members_whole (Some shown) = rw (no_float shown.witness) refl

expected_whole : (wanted : Option Expected) → has_float (expected_value wanted) ≡ false
expected_whole None = refl
expected_whole (Some (Verdict k)) = refl
expected_whole (Some Unclear) = refl

whole : (expects : Bool) (line : Line) (note : Option Note) → members_have_float (members_of (members_by expects line note)) ≡ false
whole false line None = members_whole line.said.witness
whole true line None = rw (expected_whole line.expected) (members_whole line.said.witness)
whole false line (Some note) =
    rw (number_whole note.column, number_whole note.line) refl
whole true line (Some note) =
    rw (number_whole note.column, expected_whole line.expected, number_whole note.line) refl

pub no_floats : (expects : Bool) (line : Line) → has_float (line_value expects line) ≡ false
no_floats expects line = whole expects line line.note
