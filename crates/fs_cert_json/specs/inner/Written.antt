-- What is written for the parts of a certificate, as they are kept.
use Rattle.std.specs.Prelude.{◌≡◌, ℕ, Option, List, [], ◌∷◌, All, map, String, string_bytes, codes}
use Rattle.std.specs.List.{AllZip}
use Rattle.std.specs.declared.alloc.Global.{Global}
use Rattle.serde_json.specs.Data.{Data, string, object}
use Rattle.fs_kinds.specs.declared.reason.OperationName.{OperationName as Name}
use Rattle.fs_kinds.specs.ReasonText.{operation_name}
use Rattle.fs_model.specs.declared.step.Choice.{Choice}
use Rattle.fs_cert_evidence.specs.declared.witness.WitnessFile.{WitnessFile}
use Rattle.fs_cert_evidence.specs.Inferences.{inference_of}
use Rattle.fs_cert_evidence.specs.declared.inference.Inference.{Inference}
use Rattle.fs_cert_evidence.specs.Certificate.{Link, listed_in}
use Rattle.fs_cert_evidence.specs.Texts.{array_of, members_of, number, choice_value, cycles_value, inference_value, item_value, link_value, witness_value}
use Rattle.fs_cert_evidence.specs.WitnessFile.{in_range, KeepsWitness}
use Rattle.fs_cert_evidence.specs.WitnessFile.{IsInRange}
use Rattle.fs_cert_json.specs.Kept.{KeepsCycles, KeepsLink, AreInRangeLinks, AreInRangeNames, item_of}
use Rattle.fs_cert_json.specs.declared.certificate.CertificateLink.{CertificateLink}
use Rattle.fs_cert_json.specs.declared.certificate.CertifiedCycles.{CertifiedCycles}
use Rattle.fs_cert_json.specs.declared.certificate.Item.{Item}

abbrev pub text_value : String Global → Data
text_value text = string (string_bytes text)

abbrev pub name_value : Name → Data
name_value name = string (operation_name name)

abbrev pub kept_item_value : Item → Data
kept_item_value item = item_value (item_of item)

abbrev pub kept_inference_value : Inference → Data
kept_inference_value inference = inference_value (inference_of inference)

abbrev pub choices_value : List Choice → Data
choices_value choices = array_of (map choice_value choices)

abbrev pub cycle_value : List Link → Data
cycle_value links = array_of (map link_value links)

-- objects with these values at the keys
abbrev pub witness_object : (choices order : Data) → Data
witness_object choices order = object (members_of ((codes "choices", choices) ∷ (codes "order", order) ∷ []))

abbrev pub certificate_object : (answer cycles tree : Data) → (version : ℕ) → (witnesses : Data) → Data
certificate_object answer cycles tree version witnesses = object (members_of (
    (codes "answer", answer)
    ∷ (codes "cycles", cycles)
    ∷ (codes "tree", tree)
    ∷ (codes "version", number version)
    ∷ (codes "witnesses", witnesses)
    ∷ []))

-- the value is what is written for each x that is kept as y and has its names in range
abbrev pub Writes : {X Y : Type 0} → (Y → X → Type 0) → (X → Type 0) → (X → Data) → Data → Y → Type 0
Writes {X} Keeps HasNames value d y = (x : X) → Keeps y x → HasNames x → d ≡ value x

abbrev pub WritesArray : {X Y : Type 0} → (Y → X → Type 0) → (X → Type 0) → (X → Data) → Data → List Y → Type 0
WritesArray Keeps HasNames value = Writes (AllZip Keeps) (All HasNames) (λ xs. array_of (map value xs))

abbrev pub IsKeptName : Option Name → Name → Type 0
IsKeptName kept name = kept ≡ in_range name

abbrev pub WritesName : Data → Option Name → Type 0
WritesName = Writes IsKeptName IsInRange name_value

abbrev pub WritesNames : Data → List (Option Name) → Type 0
WritesNames = WritesArray IsKeptName IsInRange name_value

abbrev pub WritesLink : Data → CertificateLink → Type 0
WritesLink = Writes KeepsLink (λ link. IsInRange link.operation) link_value

abbrev pub WritesCycle : Data → List CertificateLink → Type 0
WritesCycle = WritesArray KeepsLink (λ link. IsInRange link.operation) link_value

abbrev pub WritesCycles : Data → List (List CertificateLink) → Type 0
WritesCycles = WritesArray (AllZip KeepsLink) AreInRangeLinks cycle_value

abbrev pub WritesShown : Data → CertifiedCycles → Type 0
WritesShown = Writes KeepsCycles (λ cycles. All AreInRangeLinks (listed_in cycles)) cycles_value

abbrev pub WritesWitness : Data → WitnessFile → Type 0
WritesWitness = Writes KeepsWitness AreInRangeNames witness_value

abbrev pub WritesWitnesses : Data → List WitnessFile → Type 0
WritesWitnesses = WritesArray KeepsWitness AreInRangeNames witness_value
