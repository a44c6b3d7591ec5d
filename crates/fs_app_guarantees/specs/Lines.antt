-- What the lines of an answer say.
use Rattle.std.specs.Prelude.{◌≡◌, ℕ, List, length}
use Rattle.fs_kinds.specs.declared.placement.Entry.{Entry}
use Rattle.fs_kinds.specs.Placement.{slots_of}
use Rattle.fs_model.specs.declared.test.Test.{Test}
use Rattle.fs_model.specs.Slots.{slots}
use Rattle.fs_model.specs.Witness.{Witness}
use Rattle.fs_cert_evidence.specs.Texts.{fenced_lines, none_lines, witness_text}
use Rattle.fs_cert_evidence.specs.WitnessFile.{IsWitnessFile}
use Rattle.fs_app_io.specs.declared.status.Status.{Status}
use Rattle.fs_app_io.specs.declared.status.Status.TheVariants.{Success}

-- The lines of a placement over the test's slots are those of no other, whatever costs stand in them. Those of a
-- witness whose text is a file are those of no other such witness. And no lines are of both kinds.
pub record SayOneAnswer (t : Test) : Type 0 where
  pub placement : (p q : List Entry) (m n : ℕ) → slots_of p ≡ slots t → slots_of q ≡ slots t → fenced_lines m p ≡ fenced_lines n q → p ≡ q
  pub witness : (v w : Witness) → IsWitnessFile (length t.codes) (witness_text v) v → IsWitnessFile (length t.codes) (witness_text w) w
      → none_lines v ≡ none_lines w → v ≡ w
  pub not_both : (p : List Entry) (n : ℕ) (w : Witness) → fenced_lines n p ≡ none_lines w → ⊥

-- two runs end alike, and where they have a placement they print the same lines, byte for byte
abbrev pub IsOneAnswer : (text other : List ℕ) → (status end : Status) → Type 0
IsOneAnswer text other status end = (status ≡ end) × (status ≡ Success → text ≡ other)
