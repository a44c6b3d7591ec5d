-- What is kept of a certificate.
use Rattle.std.specs.Prelude.{◌≡◌, ◌⊎◌, List, All, map, string_bytes}
use Rattle.std.specs.List.{AllZip}
use Rattle.fs_kinds.specs.declared.fault.Fault.{Fault}
use Rattle.fs_kinds.specs.declared.fault.Fault.TheVariants.{BadCertificate, Memory}
use Rattle.fs_model.specs.Witness.{Witness}
use Rattle.fs_cert_evidence.specs.Evidence.{cause_of}
use Rattle.fs_cert_evidence.specs.Inferences.{inference_of}
use Rattle.fs_cert_evidence.specs.Certificate as said
use Rattle.fs_cert_evidence.specs.WitnessFile.{in_range, IsInRange, KeepsWitness}
use Rattle.fs_cert_json.specs.declared.certificate.Certificate.{Certificate}
use Rattle.fs_cert_json.specs.declared.certificate.CertificateLink.{CertificateLink}
use Rattle.fs_cert_json.specs.declared.certificate.CertifiedAnswer.{CertifiedAnswer}
use Rattle.fs_cert_json.specs.declared.certificate.CertifiedAnswer.TheVariants.{Fenced, NoneForbids}
use Rattle.fs_cert_json.specs.declared.certificate.CertifiedCycles.{CertifiedCycles}
use Rattle.fs_cert_json.specs.declared.certificate.CertifiedCycles.TheVariants.{Listed, Inferred}
use Rattle.fs_cert_json.specs.declared.certificate.Item.{Item}
use Rattle.fs_cert_json.specs.declared.certificate.Item.TheVariants.{SplitAt, Costly, Refuted, Bounded}
use Rattle.fs_cert_json.specs.declared.certificate.Version.{Version}
use Rattle.fs_cert_json.specs.declared.certificate.Version.TheVariants.{First, Second, Fourth}

abbrev pub version_of : Version → said.Version
version_of First = said.First
version_of Second = said.Second
version_of Fourth = said.Fourth

abbrev pub answer_of : CertifiedAnswer → said.Answer
answer_of (Fenced cost fences) = said.Fenced cost (map string_bytes fences)
answer_of NoneForbids = said.NoneForbids

abbrev pub item_of : Item → said.Item
item_of (SplitAt slot) = said.SplitAt slot
item_of Costly = said.Costly
item_of (Refuted j) = said.Refuted j
item_of (Bounded js) = said.Bounded js

-- the link's cause, and its name where that is in range
pub record KeepsLink (kept : CertificateLink) (link : said.Link) : Type 0 where
  pub operation : kept.operation ≡ in_range link.operation
  pub cause : cause_of kept.cause ≡ link.cause

abbrev pub KeepsCycle : List CertificateLink → List said.Link → Type 0
KeepsCycle = AllZip KeepsLink

-- the cycles, but for names that no operation has; or the inferences
abbrev pub KeepsCycles : CertifiedCycles → said.Cycles → Type 0
KeepsCycles (Listed kept) (said.Listed cycles) = AllZip KeepsCycle kept cycles
KeepsCycles (Inferred kept) (said.Inferred inferences) = inferences ≡ map inference_of kept
KeepsCycles kept other = ⊥

-- the certificate, but for names that no operation has
pub record KeepsCertificate (kept : Certificate) (c : said.Certificate) : Type 0 where
  pub version : c.version ≡ version_of kept.version
  pub answer : c.answer ≡ answer_of kept.answer
  pub cycles : KeepsCycles kept.cycles c.cycles
  pub tree : c.tree ≡ map item_of kept.tree
  pub witnesses : AllZip KeepsWitness kept.witnesses c.witnesses

abbrev pub IsCertificateFault : Fault → Type 0
IsCertificateFault fault = (fault ≡ BadCertificate) ⊎ (fault ≡ Memory)

-- ---- what can be written: each name is an operation's

abbrev pub AreInRangeLinks : List said.Link → Type 0
AreInRangeLinks = All (λ link. IsInRange link.operation)

abbrev pub AreInRangeNames : Witness → Type 0
AreInRangeNames w = All IsInRange w.order

pub record AreInRange (c : said.Certificate) : Type 0 where
  pub cycles : All AreInRangeLinks (said.listed_in c.cycles)
  pub witnesses : All AreInRangeNames c.witnesses
