-- What a certificate that was made says.
use Rattle.std.specs.Prelude.{◌≡◌, ◌≢◌, Option, None, List, [], ◌∷◌, All, AllPairs}
use Rattle.fs_kinds.specs.declared.placement.Entry.{Entry}
use Rattle.fs_board_offers.specs.Offers.{Offers}
use Rattle.fs_model.specs.declared.test.Test.{Test}
use Rattle.fs_model.specs.Witness.{Witness}
use Rattle.fs_cert_evidence.specs.CandidateFaults.{HasNoCyclesFault}
use Rattle.fs_cert_evidence.specs.Certificate as said
use Rattle.fs_cert_evidence.specs.CertificateFile.{CanBeSaid}
use Rattle.fs_board_offers.specs.Valid.{IsValid}
use Rattle.fs_cert_evidence.specs.declared.witness.WitnessFile.{WitnessFile}
use Rattle.fs_cert_json.specs.declared.certificate.Certificate.{Certificate}
use Rattle.fs_cert_json.specs.Kept.{AreInRange, KeepsCertificate}
use Rattle.fs_cert.specs.Cycles.{BeginsAtLeast, version_for}

-- It is a certificate of the version that goes with its cycles, which is valid with this placement as its answer, or
-- with none; no fault is in the way of judging that; a file can say it; and each cycle that it lists begins at its
-- least operation.
pub record Certifies (t : Test) (offers : Offers) (answer : Option (List Entry)) (kept : Certificate) : Type 0 where
  pub certificate : said.Certificate
  pub keeps : KeepsCertificate kept certificate
  pub version : certificate.version ≡ version_for certificate.cycles
  pub valid : IsValid t offers certificate answer
  pub judged : HasNoCyclesFault certificate.cycles t
  pub in_range : AreInRange certificate
  pub sayable : CanBeSaid certificate
  pub least : All BeginsAtLeast (said.listed_in certificate.cycles)

-- It is one of none, by this witness.
pub record CertifiesNone (t : Test) (offers : Offers) (w : Witness) (kept : Certificate) : Type 0 where
  pub certifies : Certifies t offers None kept
  pub only : certifies.certificate.witnesses ≡ w ∷ []

-- no two of them are the same
abbrev pub AreDistinct : List WitnessFile → Type 0
AreDistinct = AllPairs (λ file other. file ≢ other)

-- the certificate has each of its witnesses once
abbrev pub HasEachOnce : Certificate → Type 0
HasEachOnce kept = AreDistinct kept.witnesses
