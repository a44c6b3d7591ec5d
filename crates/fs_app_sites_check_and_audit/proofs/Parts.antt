-- Why a value is no certificate over sites, or no witness of one; and that each witness that was read is said.
use Rattle.std.proofs.Common.{◌≡◌, ℕ, ◌==◌, Bool, true, List, [], ◌∷◌, All, Some, length, refl, sym, subst, ◌∙◌, arith}
use Rattle.std.proofs.lemmas.Bool.Decides.{nat_tests}
use Rattle.std.specs.Bool.{Decides}
use Rattle.std.specs.List.{AllZip}
use Rattle.std.proofs.lemmas.List.Elements.{All-nil, All-cons}
use Rattle.serde_json.specs.Data.{Data, Items, item, no_items}
use Rattle.serde_json.specs.Find.{as_array}
use Rattle.serde_json.specs.View.{items_view, view}
use Rattle.serde_json.specs.declared.value.Value.{Value}
use Rattle.fs_model.specs.Witness.{Witness}
use Rattle.fs_cert_evidence.specs.CertificateFile.{IsAnswerValue, IsInference, IsNumber}
use Rattle.fs_cert_evidence.specs.WitnessFile.{IsArrayOf, IsChoice, IsName, IsWitnessValue}
use Rattle.fs_cert_json.specs.inner.Sections.{HasSections}
use Rattle.fs_cert_json.specs.inner.Written.{witness_object}
use Rattle.fs_sites_check.specs.Valid.{IsSaid}
use Rattle.fs_sites_check.specs.declared.certificate.SitesCertificate.{SitesCertificate}
use Rattle.fs_sites_check.specs.declared.certificate.SitesWitness.{SitesWitness}
use Rattle.fs_app_sites_check_and_audit.specs.Kept.{KeepsSaid, KeepsTestWitness}
use Rattle.fs_app_sites_check_and_audit.specs.SitesFile.{HasParts, IsSitesValue, IsTestWitness, Said, SayWitness, TestWitness}

-- ---- arrays of nothing

is_none : (n : ℕ) → (n == 0) ≡ true → n ≡ 0
is_none n e = grind (arith, nat_tests)

other : (first : Data) (others : Items) → Some (item first others) ≡ Some no_items → ⊥
other first others is = absurd (cc)

pub none_left : (d : Data) (vs : List Value) (b : Bool) → Some (items_view vs) ≡ as_array d → b ≡ (length vs == 0)
    → Decides b (as_array d ≡ Some no_items)
none_left d [] b is none = ((λ _. sym is), λ _. none)
none_left d (v ∷ vs) b is none = (
  (λ e. let few = is_none (length (v ∷ vs)) (sym none ∙ e) in absurd (omega (arith, few))),
  λ e. absurd (other (view v) (items_view vs) (is ∙ e)),
)

-- ---- certificates

-- the sections of a certificate say its parts
pub record SaysSections (answer cycles tree version witnesses : Data) (c : Said) : Type 0 where
  pub of_answer : IsAnswerValue answer c.answer
  pub of_cycles : IsArrayOf (IsArrayOf IsInference) cycles c.cycles
  pub of_tree : as_array tree ≡ Some no_items
  pub of_version : IsNumber version 5
  pub of_witnesses : IsArrayOf IsTestWitness witnesses c.witnesses

pub sections_at : (d answer cycles tree version witnesses : Data) (c : Said) → HasSections d answer cycles tree version witnesses
    → IsSitesValue d c → SaysSections answer cycles tree version witnesses c
sections_at d answer cycles tree version witnesses c has h =
    let to_answer : h.answer ≡ answer = (let l = h.sections.at_answer in let r = has.at_answer in cc) in
    let to_cycles : h.cycles ≡ cycles = (let l = h.sections.at_cycles in let r = has.at_cycles in cc) in
    let to_tree : h.tree ≡ tree = (let l = h.sections.at_tree in let r = has.at_tree in cc) in
    let to_version : h.version ≡ version = (let l = h.sections.at_version in let r = has.at_version in cc) in
    let to_witnesses : h.witnesses ≡ witnesses = (let l = h.sections.at_witnesses in let r = has.at_witnesses in cc) in
    record {
      of_answer = subst (λ e. IsAnswerValue e c.answer) to_answer h.says_answer;
      of_cycles = subst (λ e. IsArrayOf (IsArrayOf IsInference) e c.cycles) to_cycles h.says_cycles;
      of_tree = subst (λ e. as_array e ≡ Some no_items) to_tree h.says_tree;
      of_version = subst (λ e. IsNumber e 5) to_version h.says_version;
      of_witnesses = subst (λ e. IsArrayOf IsTestWitness e c.witnesses) to_witnesses h.says_witnesses;
    }

-- ---- witnesses

pub record SaysParts (lists names test : Data) (w : TestWitness) : Type 0 where
  pub of_witness : SayWitness lists names w.witness
  pub of_test : IsNumber test w.test

pub parts_at : (d lists names test : Data) (w : TestWitness) → HasParts d lists names test → IsTestWitness d w
    → SaysParts lists names test w
parts_at d lists names test w has h =
    let to_lists : h.lists ≡ lists = (let l = h.parts.at_choices in let r = has.at_choices in cc) in
    let to_names : h.names ≡ names = (let l = h.parts.at_order in let r = has.at_order in cc) in
    let to_test : h.number ≡ test = (let l = h.parts.at_test in let r = has.at_test in cc) in
    record {
      of_witness = (
        subst (λ e. IsArrayOf (IsArrayOf IsChoice) e w.witness.choices) to_lists h.says.0,
        subst (λ e. IsArrayOf IsName e w.witness.order) to_names h.says.1,
      );
      of_test = subst (λ e. IsNumber e w.test) to_test h.test;
    }

-- an object as in a witness file says what its values say
pub said_by : (lists names : Data) (w : Witness) → IsWitnessValue (witness_object lists names) w → SayWitness lists names w
said_by lists names w h =
    let to_lists : h.lists ≡ lists = (let l = h.pair.choices in cc) in
    let to_names : h.names ≡ names = (let l = h.pair.order in cc) in (
      subst (λ e. IsArrayOf (IsArrayOf IsChoice) e w.choices) to_lists h.choices,
      subst (λ e. IsArrayOf IsName e w.order) to_names h.order,
    )

pub says_both : (lists names : Data) (w : Witness) → SayWitness lists names w → IsWitnessValue (witness_object lists names) w
says_both lists names w h = record {
  lists = lists;
  names = names;
  pair = record { keys = refl; choices = refl; order = refl };
  choices = h.0;
  order = h.1;
}

-- ---- each witness is said

are_said : (kept : List SitesWitness) (ws : List TestWitness) → AllZip KeepsTestWitness kept ws → All IsSaid kept
are_said [] ws each = All-nil IsSaid
are_said (k ∷ kept) [] each = absurd each
are_said (k ∷ kept) (w ∷ ws) each = All-cons IsSaid k kept (w.witness, each.0.keeps) (are_said kept ws each.1)

pub all_said : (kept : SitesCertificate) (c : Said) → KeepsSaid kept c → All IsSaid kept.witnesses
all_said kept c keeps = are_said kept.witnesses c.witnesses keeps.witnesses
