-- The object of a file, by its parts.
use Rattle.std.specs.Prelude.{Bool, Some, [], ◌∷◌, codes}
use Rattle.serde_json.specs.Data.{Data, object}
use Rattle.fs_cert_evidence.specs.Texts.{members_of}
use Rattle.fs_app_test.specs.declared.said.Line.{Line}
use Rattle.fs_app_test.specs.declared.said.Note.{Note}
use Rattle.fs_app_test.specs.Report.{members_by, members_with}

abbrev pub plain_object : (expects : Bool) → Line → Data
plain_object expects line = object (members_of (members_with expects line []))

abbrev pub witness_object : (expects : Bool) → Line → Data → Data
witness_object expects line witness = object (members_of (members_with expects line ((codes "witness", witness) ∷ [])))

abbrev pub fault_object : (expects : Bool) → Line → Note → Data
fault_object expects line note = object (members_of (members_by expects line (Some note)))
