-- What is said of a certificate, and why nothing may be said.
use Rattle.std.specs.Prelude.{◌≡◌, ◌⊎◌, ℕ, List}
use Rattle.fs_kinds.specs.declared.fault.Fault.{Fault}
use Rattle.fs_kinds.specs.declared.fault.Fault.TheVariants.{BadCertificate}
use Rattle.fs_kinds.specs.PriceTable.{PriceTable}
use Rattle.fs_model.specs.declared.test.Test.{Test}
use Rattle.fs_cert_evidence.specs.CandidateFaults.{IsCyclesFault, HasNoCyclesFault}
use Rattle.fs_cert_evidence.specs.Certificate.{Certificate, IsRight}
use Rattle.fs_cert_evidence.specs.CertificateFile.{IsCertificateFile}
use Rattle.fs_board_offers.specs.Priced.{IsValid, IsRefusal}
use Rattle.fs_cert_json.specs.Kept.{KeepsCertificate}
use Rattle.fs_check_certificate.specs.declared.certificate_verdict.CheckVerdict.{CheckVerdict}
use Rattle.fs_check_certificate.specs.declared.certificate_verdict.CheckVerdict.TheVariants.{Yes, No}

-- The certificate is valid for the answer, and so the answer is right; or it isn't, for this reason, which is the
-- first.
abbrev pub IsCheckVerdict : Test → PriceTable → Certificate → CheckVerdict → Type 0
IsCheckVerdict t prices c (Yes kept answer) = KeepsCertificate kept c × (IsValid t prices c answer × IsRight c.version t prices answer)
IsCheckVerdict t prices c (No why) = IsRefusal t prices c why

-- the bytes are a certificate file, whose cycles can be judged, and this is said of what they say
pub record IsJudged (t : Test) (prices : PriceTable) (bytes : List ℕ) (given : CheckVerdict) : Type 0 where
  pub certificate : Certificate
  pub says : IsCertificateFile bytes certificate
  pub clean : HasNoCyclesFault certificate.cycles t
  pub verdict : IsCheckVerdict t prices certificate given

-- The bytes are no certificate file. Or they are one, whose cycles can't be judged: the candidates or the runs of the
-- test can't be listed.
abbrev pub IsCheckFault : Test → (certificate : List ℕ) → Fault → Type 0
IsCheckFault t bytes f =
    ((f ≡ BadCertificate) × ((c : Certificate) → IsCertificateFile bytes c → ⊥))
    ⊎ ((c : Certificate) × IsCertificateFile bytes c × IsCyclesFault c.cycles t f)
