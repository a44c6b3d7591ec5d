-- Parts of a certificate that are copied, each within the range of its type.
use Rattle.std.specs.Prelude.{◌≡◌, ℕ, ◌≤◌, Some, Option, List, ◌++◌, All, take, drop, slice_get}
use Rattle.std.specs.List.{AllZip}
use Rattle.fs_kinds.specs.declared.reason.OperationName.{OperationName as Name}
use Rattle.fs_model.specs.declared.step.Choice.{Choice}
use Rattle.fs_model.specs.Witness.{Witness}
use Rattle.fs_cert_evidence.specs.declared.witness.WitnessFile.{WitnessFile}
use Rattle.fs_cert_evidence.specs.Certificate as said
use Rattle.fs_cert_evidence.specs.Certificate.{Cycles, Inference, Link}
use Rattle.fs_cert_evidence.specs.CertificateFile.{IsChoiceOfWord, IsSayableCycle, IsSayableInference, most_number}
use Rattle.fs_cert_evidence.specs.Trees.{cycle_in}
use Rattle.fs_cert_evidence.specs.WitnessFile.{in_range, IsInRange}
use Rattle.fs_cert_json.specs.declared.certificate.CertificateLink.{CertificateLink}
use Rattle.fs_cert_json.specs.declared.certificate.CertifiedCycles.{CertifiedCycles}
use Rattle.fs_cert_json.specs.declared.certificate.CertifiedCycles.TheVariants.{Listed, Inferred}
use Rattle.fs_cert_json.specs.Kept.{KeepsLink}
use Rattle.fs_cert_evidence.specs.Inferences.{inference_of}
use Rattle.fs_cert_evidence.specs.declared.inference.Inference.{Inference as CodeInference}
use Rattle.fs_cert.specs.Cycles.{BeginsAtLeast}

abbrev pub IsCopiedLink : CertificateLink → Link → Type 0
IsCopiedLink copy link = KeepsLink copy link × IsInRange link.operation

-- the links from this number on, and then those before it
abbrev pub turned : ℕ → List Link → List Link
turned k links = drop k links ++ take k links

-- a copy of the links, turned so that it begins at the least operation
pub record IsCopiedCycle (copy : List CertificateLink) (links : List Link) : Type 0 where
  pub first : ℕ
  pub copied : AllZip IsCopiedLink copy (turned first links)
  pub least : BeginsAtLeast (turned first links)

-- the name, which is in range
abbrev pub IsNamed : Name → Name → Type 0
IsNamed copy name = (copy ≡ name) × IsInRange name

abbrev pub IsSameLink : Link → Link → Type 0
IsSameLink copy link = (copy ≡ link) × IsInRange link.operation

-- the inference, which a file can say if it can say the cycle in it
abbrev pub IsCopiedInference : CodeInference → Inference → Type 0
IsCopiedInference copy inference = (inference_of copy ≡ inference) × (All IsSayableCycle (cycle_in inference) → IsSayableInference inference)

-- copies of the cycles of a list, or of the inferences
abbrev pub AreCopiedCycles : CertifiedCycles → Cycles → Type 0
AreCopiedCycles (Listed copies) (said.Listed cycles) = AllZip IsCopiedCycle copies cycles
AreCopiedCycles (Inferred copies) (said.Inferred inferences) = AllZip IsCopiedInference copies inferences
AreCopiedCycles copies other = ⊥

abbrev pub IsCopiedChoice : Choice → Choice → Type 0
IsCopiedChoice copy choice = (copy ≡ choice) × IsChoiceOfWord choice

abbrev pub AreCopiedChoices : List Choice → List Choice → Type 0
AreCopiedChoices = AllZip IsCopiedChoice

abbrev pub IsCopiedName : Option Name → Name → Type 0
IsCopiedName copy name = (copy ≡ in_range name) × IsInRange name

pub record IsCopiedWitness (file : WitnessFile) (w : Witness) : Type 0 where
  pub choices : AllZip AreCopiedChoices file.choices w.choices
  pub order : AllZip IsCopiedName file.order w.order

abbrev pub AreCopiedWitnesses : List WitnessFile → List Witness → Type 0
AreCopiedWitnesses = AllZip IsCopiedWitness

-- none of the files is a copy of the witness
abbrev pub HasNoCopy : List WitnessFile → Witness → Type 0
HasNoCopy files w = (k : ℕ) (file : WitnessFile) → slice_get files k ≡ Some file → IsCopiedWitness file w → ⊥

-- the witness stands among these under this number
abbrev pub StandsAt : List Witness → Witness → ℕ → Type 0
StandsAt ws w n = (slice_get ws n ≡ Some w) × (n ≤ most_number)

-- and each of them under its number
abbrev pub AreNumbered : List Witness → List Witness → List ℕ → Type 0
AreNumbered ws = AllZip (StandsAt ws)

-- the files are copies of witnesses, among which each of these stands under its number
abbrev pub IsNumbering : List WitnessFile → List ℕ → List Witness → Type 0
IsNumbering files numbers all = (ws : List Witness) × AreCopiedWitnesses files ws × AreNumbered ws all numbers
