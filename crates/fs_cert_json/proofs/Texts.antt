-- The JSON value of a certificate: its parts, and that it has no float.
use Rattle.std.proofs.Common.{◌≡◌, ℕ, List, [], ◌∷◌, map, false, refl, sym, ap, ◌∙◌}
use Rattle.serde_json.specs.Data.{Data, string}
use Rattle.serde_json.specs.Written.{has_float, items_have_float}
use Rattle.fs_model.specs.declared.step.Choice.{Choice}
use Rattle.fs_model.specs.declared.step.Choice.TheVariants.{Word, Success, Failure}
use Rattle.fs_model.specs.Witness.{Witness}
use Rattle.fs_cert_evidence.specs.declared.witness.WitnessFile.{WitnessFile}
use Rattle.fs_cert_evidence.specs.Inferences.{inference_of}
use Rattle.fs_cert_evidence.specs.declared.inference.Inference.{Inference as KeptInference}
use Rattle.fs_cert_evidence.specs.Certificate.{Certificate, Answer, Fenced, NoneForbids, Cycles, Listed, Inferred, Inference, ByChoice, BySource, ByOrder, ByCases, Filter, Cycle, Stale, Reversed, Parted, Item, SplitAt, Costly, Refuted, Bounded}
use Rattle.fs_cert_evidence.specs.CertificateFile.{version_number}
use Rattle.fs_cert_evidence.specs.Texts.{items_of, array_of, number, choice_value, answer_value, link_value, inference_value, cycles_value, item_value, witness_value, certificate_value}
use Rattle.fs_cert_evidence.specs.WitnessFile.{KeepsWitness}
use Rattle.fs_cert_json.specs.Kept.{KeepsCertificate, AreInRange, AreInRangeNames, answer_of, item_of, version_of}
use Rattle.fs_cert_json.specs.declared.certificate.Certificate.{Certificate as Kept}
use Rattle.fs_cert_json.specs.declared.certificate.CertificateLink.{CertificateLink}
use Rattle.fs_cert_json.specs.declared.certificate.CertifiedCycles.TheVariants as kept_cycles
use Rattle.fs_cert_json.specs.inner.Written.{WritesCycles, WritesShown, WritesNames, WritesWitnesses, choices_value, cycle_value, name_value, certificate_object, witness_object}
use Rattle.fs_cert_json.proofs.Steps.{zip_names}

-- ---- parts

pub whole_witness : (kept : WitnessFile) (w : Witness) (choices order : Data) → KeepsWitness kept w → AreInRangeNames w → choices ≡ array_of (map choices_value kept.choices)
    → WritesNames order kept.order → witness_object choices order ≡ witness_value w
whole_witness kept w choices order keeps names lists writes =
    let first : choices ≡ array_of (map choices_value w.choices) = lists ∙ ap (λ l. array_of (map choices_value l)) keeps.choices in
    let second : order ≡ array_of (map name_value w.order) = writes w.order (zip_names kept.order w.order keeps.order) names in
    ap (λ d. witness_object d order) first ∙ ap (witness_object (array_of (map choices_value w.choices))) second

-- what is written for a list of cycles, and for inferences
pub shown_listed : (d : Data) (kept : List (List CertificateLink)) → WritesCycles d kept
    → WritesShown d (kept_cycles.Listed kept)
shown_listed d kept writes (Listed cycles) keeps names = writes cycles keeps names
shown_listed d kept writes (Inferred inferences) keeps names = absurd keeps

pub shown_inferred : (d : Data) (kept : List KeptInference)
    → d ≡ array_of (map inference_value (map inference_of kept)) → WritesShown d (kept_cycles.Inferred kept)
shown_inferred d kept is (Listed cycles) keeps names = absurd keeps
shown_inferred d kept is (Inferred inferences) keeps names = is ∙ ap (λ l. array_of (map inference_value l)) (sym keeps)

pub whole_certificate : (kept : Kept) (c : Certificate) (answer cycles tree witnesses : Data) → KeepsCertificate kept c → AreInRange c
    → answer ≡ answer_value (answer_of kept.answer) → WritesShown cycles kept.cycles
    → tree ≡ array_of (map item_value (map item_of kept.tree)) → WritesWitnesses witnesses kept.witnesses
    → certificate_object answer cycles tree (version_number (version_of kept.version)) witnesses ≡ certificate_value c
whole_certificate kept c answer cycles tree witnesses keeps names is_answer writes_cycles is_tree writes_witnesses =
    let to_answer : answer ≡ answer_value c.answer = is_answer ∙ ap answer_value (sym keeps.answer) in
    let to_cycles : cycles ≡ cycles_value c.cycles = writes_cycles c.cycles keeps.cycles names.cycles in
    let to_tree : tree ≡ array_of (map item_value c.tree) = is_tree ∙ ap (λ l. array_of (map item_value l)) (sym keeps.tree) in
    let to_witnesses : witnesses ≡ array_of (map witness_value c.witnesses) = writes_witnesses c.witnesses keeps.witnesses names.witnesses in
    let to_version : version_number (version_of kept.version) ≡ version_number c.version = ap version_number (sym keeps.version) in
    ap (λ d. certificate_object d cycles tree (version_number (version_of kept.version)) witnesses) to_answer
    ∙ ap (λ d. certificate_object (answer_value c.answer) d tree (version_number (version_of kept.version)) witnesses) to_cycles
    ∙ ap (λ d. certificate_object (answer_value c.answer) (cycles_value c.cycles) d
    (version_number (version_of kept.version)) witnesses) to_tree
    ∙ ap (λ n. certificate_object (answer_value c.answer) (cycles_value c.cycles) (array_of (map item_value c.tree)) n
    witnesses) to_version
    ∙ ap (λ d. certificate_object (answer_value c.answer) (cycles_value c.cycles) (array_of (map item_value c.tree))
    (version_number c.version) d) to_witnesses

-- ---- no float

none_floats : {A : Type 0} (f : A → Data) → ((x : A) → has_float (f x) ≡ false) → (xs : List A) → items_have_float (items_of (map f xs)) ≡ false
none_floats f whole [] = refl
none_floats f whole (x ∷ xs) = rw (whole x, none_floats f whole xs) refl

choice_whole : (choice : Choice) → has_float (choice_value choice) ≡ false
choice_whole (Word w) = refl
choice_whole Success = refl
choice_whole Failure = refl

witness_whole : (w : Witness) → has_float (witness_value w) ≡ false
witness_whole w = rw (none_floats choices_value (none_floats choice_value choice_whole) w.choices, none_floats name_value (λ name. refl) w.order) refl

inference_whole : (inference : Inference) → has_float (inference_value inference) ≡ false
inference_whole (ByChoice name) = refl
inference_whole (BySource load) = refl
inference_whole (ByOrder first second) = refl
inference_whole (ByCases condition) = refl
inference_whole (Filter hart) = refl
inference_whole (Cycle links) = rw (none_floats link_value (λ link. refl) links) refl
inference_whole (Stale load store) = refl
inference_whole (Reversed load store) = refl
inference_whole (Parted load store other) = refl

cycles_whole : (cycles : Cycles) → has_float (cycles_value cycles) ≡ false
cycles_whole (Listed cycles) = rw (none_floats cycle_value (none_floats link_value (λ link. refl)) cycles) refl
cycles_whole (Inferred inferences) = rw (none_floats inference_value inference_whole inferences) refl

item_whole : (item : Item) → has_float (item_value item) ≡ false
item_whole (SplitAt slot) = refl
item_whole Costly = refl
item_whole (Refuted j) = refl
item_whole (Bounded js) = rw (none_floats number (λ n. refl) js) refl

abbrev text_of : List ℕ → Data
text_of text = string text

answer_whole : (answer : Answer) → has_float (answer_value answer) ≡ false
answer_whole NoneForbids = refl
answer_whole (Fenced cost fences) = rw (none_floats text_of (λ text. refl) fences) refl

pub no_float : (c : Certificate) → has_float (certificate_value c) ≡ false
no_float c =
    rw (
      answer_whole c.answer,
      cycles_whole c.cycles,
      none_floats item_value item_whole c.tree,
      none_floats
          witness_value witness_whole c.witnesses,
    ) refl
