-- What is kept of a certificate file of the fifth version.
use Rattle.std.specs.Prelude.{◌≡◌, map}
use Rattle.std.specs.List.{AllZip}
use Rattle.fs_cert_evidence.specs.Inferences.{inference_of}
use Rattle.fs_cert_evidence.specs.WitnessFile.{KeepsWitness}
use Rattle.fs_cert_json.specs.Kept.{answer_of}
use Rattle.fs_sites_check.specs.declared.certificate.SitesCertificate.{SitesCertificate}
use Rattle.fs_sites_check.specs.declared.certificate.SitesWitness.{SitesWitness}
use Rattle.fs_app_sites_check_and_audit.specs.SitesFile.{Said, TestWitness}

-- the witness of this test, but for names that no operation has
pub record KeepsTestWitness (kept : SitesWitness) (w : TestWitness) : Type 0 where
  pub test : kept.test ≡ w.test
  pub keeps : KeepsWitness kept.file w.witness

-- what the file says, but for such names
pub record KeepsSaid (kept : SitesCertificate) (c : Said) : Type 0 where
  pub answer : c.answer ≡ answer_of kept.answer
  pub cycles : c.cycles ≡ map (map inference_of) kept.cycles
  pub witnesses : AllZip KeepsTestWitness kept.witnesses c.witnesses
