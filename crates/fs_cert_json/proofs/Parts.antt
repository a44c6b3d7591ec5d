-- Why a value is no answer, no cycle, no item, or no certificate.
use Rattle.std.proofs.Common.{◌≡◌, ℕ, ◌<◌, ◌⊎◌, inl, inr, ◌==◌, true, List, length, Some, None, refl, subst, arith, codes}
use Rattle.std.proofs.lemmas.Bool.Decides.{nat_tests}
use Rattle.serde_json.specs.Data.{Data, Items, null, boolean, number, string, array, object}
use Rattle.serde_json.specs.Find.{get, as_str, as_array}
use Rattle.serde_json.specs.View.{items_view}
use Rattle.serde_json.specs.declared.value.Value.{Value}
use Rattle.fs_kinds.specs.declared.reason.OperationName.{OperationName as Name}
use Rattle.fs_cert_evidence.specs.Certificate.{Certificate, Version, First, Second, Fourth, Answer, Fenced, NoneForbids, Cycles, Listed, Inferred, Link, Inference, Item, SplitAt, Costly, Refuted, Bounded}
use Rattle.fs_cert_evidence.specs.CertificateFile.{AreTwo, IsNumber, IsText, IsAnswerValue, IsLink, IsCycleValue, IsInference, IsItem, AreCycles, IsCertificateValue, version_number}
use Rattle.fs_cert_evidence.specs.WitnessFile.{EachItem, IsArrayOf, IsName, IsWitnessValue}
use Rattle.fs_cert_json.specs.Kept.{version_of}
use Rattle.fs_cert_json.specs.declared.certificate.Version.{Version as Kept}
use Rattle.fs_cert_json.specs.declared.certificate.Version.TheVariants as kept
use Rattle.fs_cert_json.specs.inner.Leaves.{IsLeaf}
use Rattle.fs_cert_json.specs.inner.Sections.{HasSections}
use Rattle.fs_cert_json.proofs.Lists.{as_long, same_long}

-- ---- answers

pub no_fences : (d words : Data) → as_str d ≡ None → get (codes "fences") d ≡ Some words → ((texts : List (List ℕ)) → ¬ IsArrayOf IsText words texts)
    → (answer : Answer) → ¬ IsAnswerValue d answer
no_fences d words plain here none NoneForbids h = absurd (cc)
no_fences d words plain here none (Fenced cost fences) h =
    let there = h.4 in
    let same : h.1 ≡ words = cc in
    none fences (subst (λ w. IsArrayOf IsText w fences) same h.6)

-- ---- cycles

pub no_name : (d name why : Data) → AreTwo d name why → ((n : Name) → ¬ IsName name n) → (link : Link) → ¬ IsLink d link
no_name d name why two none link h =
    let there = h.2 in
    let same : h.0 ≡ name = cc in
    none link.operation (subst (λ e. IsName e link.operation) same h.3)

pub bad_length : (d : Data) (vs : List Value) → Some (items_view vs) ≡ as_array d → (length vs ≡ 0) ⊎ (64 < length vs) → (links : List Link) → ¬ IsCycleValue d links
bad_length d vs is bad links h =
    let there = h.0.1 in
    let same : h.0.0 ≡ items_view vs = cc in
    let long = as_long IsLink vs links (subst (λ ds. EachItem IsLink ds links) same h.0.2) in
    elim bad [ inl e ↦ absurd (omega arith) | inr e ↦ absurd (omega arith) ]

-- a value that says no cycles says none in the first two versions
pub no_cycles : (version : Kept) (d : Data) → (version ≡ kept.First) ⊎ (version ≡ kept.Second)
    → ((cycles : List (List Link)) → ¬ IsArrayOf IsCycleValue d cycles)
    → (cycles : Cycles) → ¬ AreCycles (version_of version) d cycles
no_cycles kept.First d is none (Listed cycles) h = none cycles h
no_cycles kept.First d is none (Inferred inferences) h = h
no_cycles kept.Second d is none (Listed cycles) h = none cycles h
no_cycles kept.Second d is none (Inferred inferences) h = h
no_cycles kept.Fourth d is none cycles h = elim is [ inl e ↦ absurd (cc) | inr e ↦ absurd (cc) ]

pub are_cycles : (version : Kept) (d : Data) (cycles : List (List Link))
    → (version ≡ kept.First) ⊎ (version ≡ kept.Second) → IsArrayOf IsCycleValue d cycles
    → AreCycles (version_of version) d (Listed cycles)
are_cycles kept.First d cycles is h = h
are_cycles kept.Second d cycles is h = h
are_cycles kept.Fourth d cycles is h = elim is [ inl e ↦ absurd (cc) | inr e ↦ absurd (cc) ]

-- a value that says no inferences says none in the fourth version
pub no_inferences : (version : Kept) (d : Data) → version ≡ kept.Fourth
    → ((inferences : List Inference) → ¬ IsArrayOf IsInference d inferences)
    → (cycles : Cycles) → ¬ AreCycles (version_of version) d cycles
no_inferences kept.First d is none cycles h = absurd (cc)
no_inferences kept.Second d is none cycles h = absurd (cc)
no_inferences kept.Fourth d is none (Listed cycles) h = h
no_inferences kept.Fourth d is none (Inferred inferences) h = none inferences h

-- ---- items

no_number : (d : Data) (ds : Items) (n : ℕ) → as_array d ≡ Some ds → ¬ IsNumber d n
no_number null ds n is h = absurd (cc)
no_number (boolean b) ds n is h = absurd (cc)
no_number (number m) ds n is h = absurd (cc)
no_number (string s) ds n is h = absurd (cc)
no_number (array es) ds n is h = absurd (cc)
no_number (object ms) ds n is h = absurd (cc)

no_text : (d : Data) (ds : Items) (text : List ℕ) → as_array d ≡ Some ds → ¬ IsText d text
no_text null ds text is h = absurd (cc)
no_text (boolean b) ds text is h = absurd (cc)
no_text (number m) ds text is h = absurd (cc)
no_text (string s) ds text is h = absurd (cc)
no_text (array es) ds text is h = absurd (cc)
no_text (object ms) ds text is h = absurd (cc)

bounded : (d letter argument : Data) (js : List ℕ) → AreTwo d letter argument → IsItem Second d (Bounded js)
    → IsLeaf Second letter argument (Bounded js)
bounded d letter argument js two h =
    let there = h.2 in
    let first : h.0 ≡ letter = cc in
    let second : h.1 ≡ argument = cc in
    (subst (λ e. IsText e (codes "b")) first h.3, subst (λ e. IsArrayOf IsNumber e js) second h.4, h.5)

pub no_leaf : (version : Version) (d letter argument : Data) → AreTwo d letter argument → ((leaf : Item) → ¬ IsLeaf version letter argument leaf)
    → (leaf : Item) → ¬ IsItem version d leaf
no_leaf version d letter argument two none (SplitAt slot) h = no_number d _ slot two h
no_leaf version d letter argument two none Costly h = no_text d _ _ two h
no_leaf version d letter argument two none (Refuted j) h =
    let there = h.2 in
    let first : h.0 ≡ letter = cc in
    let second : h.1 ≡ argument = cc in
    none (Refuted j) (subst (λ e. IsText e (codes "w")) first h.3, subst (λ e. IsNumber e j) second h.4)
no_leaf First d letter argument two none (Bounded js) h = h
no_leaf Second d letter argument two none (Bounded js) h = none (Bounded js) (bounded d letter argument js two h)
no_leaf Fourth d letter argument two none (Bounded js) h = none (Bounded js) (bounded d letter argument js two h)

-- neither refuted by a witness nor bounded
pub no_bounds : (version : Version) (letter argument : Data) → ¬ IsText letter (codes "w") → ((js : List ℕ) → ¬ IsArrayOf IsNumber argument js)
    → (leaf : Item) → ¬ IsLeaf version letter argument leaf
no_bounds version letter argument other none (SplitAt slot) h = h
no_bounds version letter argument other none Costly h = h
no_bounds version letter argument other none (Refuted j) h = other h.0
no_bounds First letter argument other none (Bounded js) h = h
no_bounds Second letter argument other none (Bounded js) h = none js h.1
no_bounds Fourth letter argument other none (Bounded js) h = none js h.1

is_none : (n : ℕ) → (n == 0) ≡ true → n ≡ 0
is_none n e = grind (arith, nat_tests)

one_at_least : (letter argument : Data) (found js : List ℕ) → IsArrayOf IsNumber argument found
    → (length found == 0) ≡ true → ¬ IsLeaf Second letter argument (Bounded js)
one_at_least letter argument found js is none h =
    let long = same_long IsNumber IsNumber argument found js is h.1 in
    let empty = is_none (length found) none in
    let some = h.2 in
    absurd (omega arith)

pub no_witness : (version : Version) (letter argument : Data) (found : List ℕ) → ¬ IsText letter (codes "w") → IsArrayOf IsNumber argument found → (length found == 0) ≡ true
    → (leaf : Item) → ¬ IsLeaf version letter argument leaf
no_witness version letter argument found other is none (SplitAt slot) h = h
no_witness version letter argument found other is none Costly h = h
no_witness version letter argument found other is none (Refuted j) h = other h.0
no_witness First letter argument found other is none (Bounded js) h = h
no_witness Second letter argument found other is none (Bounded js) h = one_at_least letter argument found js is none h
no_witness Fourth letter argument found other is none (Bounded js) h = one_at_least letter argument found js is none h

-- ---- certificates

version-once : (v w : Version) → version_number v ≡ version_number w → v ≡ w
version-once First First e = refl
version-once First Second e = absurd (omega arith)
version-once First Fourth e = absurd (omega arith)
version-once Second First e = absurd (omega arith)
version-once Second Second e = refl
version-once Second Fourth e = absurd (omega arith)
version-once Fourth First e = absurd (omega arith)
version-once Fourth Second e = absurd (omega arith)
version-once Fourth Fourth e = refl

pub same-version : (d : Data) (v w : Version) → IsNumber d (version_number v) → IsNumber d (version_number w) → v ≡ w
same-version d v w left right = version-once v w (cc)

-- the sections of a certificate say its parts
pub record SaysParts (answer cycles tree version witnesses : Data) (c : Certificate) : Type 0 where
  pub of_answer : IsAnswerValue answer c.answer
  pub of_cycles : AreCycles c.version cycles c.cycles
  pub of_tree : IsArrayOf (IsItem c.version) tree c.tree
  pub of_version : IsNumber version (version_number c.version)
  pub of_witnesses : IsArrayOf IsWitnessValue witnesses c.witnesses

pub parts_at : (d answer cycles tree version witnesses : Data) (c : Certificate) → HasSections d answer cycles tree version witnesses → IsCertificateValue d c
    → SaysParts answer cycles tree version witnesses c
parts_at d answer cycles tree version witnesses c has h =
    let to_answer : h.answer ≡ answer = (let l = h.at_answer in let r = has.at_answer in cc) in
    let to_cycles : h.cycles ≡ cycles = (let l = h.at_cycles in let r = has.at_cycles in cc) in
    let to_tree : h.tree ≡ tree = (let l = h.at_tree in let r = has.at_tree in cc) in
    let to_version : h.version ≡ version = (let l = h.at_version in let r = has.at_version in cc) in
    let to_witnesses : h.witnesses ≡ witnesses = (let l = h.at_witnesses in let r = has.at_witnesses in cc) in
    record {
      of_answer = subst (λ e. IsAnswerValue e c.answer) to_answer h.says_answer;
      of_cycles = subst (λ e. AreCycles c.version e c.cycles) to_cycles h.says_cycles;
      of_tree = subst (λ e. IsArrayOf (IsItem c.version) e c.tree) to_tree h.says_tree;
      of_version = subst (λ e. IsNumber e (version_number c.version)) to_version h.says_version;
      of_witnesses = subst (λ e. IsArrayOf IsWitnessValue e c.witnesses) to_witnesses h.says_witnesses;
    }

pub sections_in : (d : Data) (c : Certificate) (h : IsCertificateValue d c) → HasSections d h.answer h.cycles h.tree h.version h.witnesses
sections_in d c h = record {
  keys = h.keys;
  at_answer = h.at_answer;
  at_cycles = h.at_cycles;
  at_tree = h.at_tree;
  at_version = h.at_version;
  at_witnesses = h.at_witnesses;
}
