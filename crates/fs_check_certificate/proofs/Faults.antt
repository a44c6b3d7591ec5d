-- Faults of bytes that are no certificate file, and what is said of those that are one.
use Rattle.std.proofs.Common.{◌≢◌, inl, inr, ℕ, List, Result, Ok, Err, IfOk, OnOk, ap}
use Rattle.std.specs.Result.{IsErrOf}
use Rattle.fs_model.specs.declared.test.Test.{Test}
use Rattle.fs_kinds.specs.declared.fault.Fault.{Fault}
use Rattle.fs_kinds.specs.declared.fault.Fault.TheVariants as fault
use Rattle.fs_kinds.specs.PriceTable.{PriceTable}
use Rattle.fs_cert_evidence.specs.CandidateFaults.{HasNoCyclesFault}
use Rattle.fs_cert_evidence.specs.Certificate.{Certificate}
use Rattle.fs_cert_evidence.specs.CertificateFile.{IsCertificateFile}
use Rattle.fs_cert_json.specs.Kept.{IsCertificateFault}
use Rattle.fs_check_certificate.specs.declared.certificate_verdict.CheckVerdict.{CheckVerdict}
use Rattle.fs_check_certificate.specs.Checks.{IsCheckVerdict, IsJudged, IsCheckFault}

pub no_certificate : {T : Type 0} (t : Test) (bytes : List ℕ) (f : Fault) → IsCertificateFault f
    → (IsErrOf {T = T} (Err f) fault.BadCertificate → (c : Certificate) → IsCertificateFile bytes c → ⊥) → f ≢ fault.Memory → IsCheckFault t bytes f
no_certificate t bytes f is bad other = elim is [
  | inl e ↦ inl (e, bad (ap (λ x. Err x) e))
  | inr e ↦ absurd (other e)
]

pub judged : (t : Test) (prices : PriceTable) (bytes : List ℕ) (c : Certificate) (r : Result CheckVerdict Fault)
    → IsCertificateFile bytes c → OnOk r (HasNoCyclesFault c.cycles t) → IfOk r (IsCheckVerdict t prices c)
    → IfOk r (IsJudged t prices bytes)
judged t prices bytes c (Ok verdict) says clean is =
    record { certificate = c; says = says; clean = clean; verdict = is }
judged t prices bytes c (Err fault) says clean is = tt
