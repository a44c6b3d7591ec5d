-- A line that says of some bytes that their outcome is allowed has a witness, which gives an execution that shows it.
-- Where it says that the outcome is forbidden, no execution does.
use Rattle.std.proofs.Common.{◌≡◌, ◌∙◌, Bool, true, false, Option, None, Some, List, [], ℕ, inl, inr, ap, refl, string_bytes, subst, sym}
use Rattle.std.proofs.lemmas.Bool.{false≢true}
use Rattle.fs_kinds.specs.declared.fault.Fault.{Fault}
use Rattle.fs_model.specs.declared.test.Test.{Test}
use Rattle.fs_model.specs.Allows.{Shows, no_fences}
use Rattle.fs_model.specs.Execution.{Execution}
use Rattle.fs_model.specs.Test.{IsSame}
use Rattle.fs_model.specs.Witness.{IsOfWitness, Witness}
use Rattle.fs_model_laws.proofs.FencedSame.{shows_same}
use Rattle.fs_litmus.specs.Reads.{Reads}
use Rattle.fs_litmus.proofs.ReadsOnce.{reads_once}
use Rattle.fs_app_test.specs.declared.said.Kind.{Kind}
use Rattle.fs_app_test.specs.declared.said.Kind.TheVariants as kind
use Rattle.fs_app_test.specs.declared.said.Line.{Line}
use Rattle.fs_app_test.specs.SaidVerdicts.{IsForbidden, Says, SaysAllowed, witness_in}
use Rattle.fs_app_test.specs.Verdicts.{IsTested, NamesFault, SaysOfBytes}
use Rattle.fs_app_test.specs.Judging.{IsJudged}
use Rattle.fs_app_why.specs.Why.{IsAllowed, IsNotShown}
use Rattle.fs_app.specs.Telling.{is_allowed, is_forbidden}

-- ---- tests that are the same but for where the parts of their conditions lie

same_whole : (t u : Test) → IsSame t u → t ≡ record u { condition = t.condition }
same_whole t u s =
    ap (λ x. record t { name = x }) s.name
    ∙ ap (λ x. record t { name = u.name; codes = x }) s.codes
    ∙ ap (λ x. record t { name = u.name; codes = u.codes; starts = x }) s.starts
    ∙ ap (λ x. record u { starts = u.starts; locations = x; quantifier = t.quantifier; condition = t.condition }) s.locations
    ∙ ap (λ x. record u { quantifier = x; condition = t.condition }) s.quantifier

given_same : (t u : Test) (w : Witness) (e : Execution) → IsSame t u → IsOfWitness t w e → IsOfWitness u w e
given_same t u w e s h =
    let here = subst (λ v. IsOfWitness v w e) (same_whole t u s) h in
    record { lists = here.lists; harts = here.harts; runs = here.runs; order = here.order }

shown_same : (t u : Test) (e : Execution) → IsSame t u → Shows t (no_fences t) e → Shows u (no_fences u) e
shown_same t u e s h =
    (shows_same t u (no_fences u) e s).0 (subst (λ p. Shows t p e) (ap no_fences (same_whole t u s)) h)

-- ---- what is said

-- what is so of the kind that is said, and not of faults
module _ (is_so : Kind → Bool) (never : is_so kind.Faulty ≡ false) where
  no_fault : (fault : Fault) (k : Kind) (why : List ℕ) (w : Option Witness) → is_so k ≡ true → NamesFault fault k why w → ⊥
  no_fault fault k why w so names = false≢true (sym never ∙ sym (ap is_so names.faulty) ∙ so)

  tested : (bytes : List ℕ) (k : Kind) (why : List ℕ) (w : Option Witness) → is_so k ≡ true → SaysOfBytes bytes k why w
      → IsTested bytes k why w
  tested bytes k why w so (inl is) = is
  tested bytes k why w so (inr (fault, first, names)) = absurd (no_fault fault k why w so names)

says_allowed : (t : Test) (k : Kind) (why : List ℕ) (w : Option Witness) → is_allowed k ≡ true → Says t k why w
    → (v : Witness) × (w ≡ Some v) × SaysAllowed t why v
says_allowed t kind.Allowed why (Some v) allowed says = (v, refl, says)
says_allowed t kind.Allowed why None allowed says = absurd says
says_allowed t kind.Forbidden why w allowed says = absurd (false≢true allowed)
says_allowed t kind.Vacuous why w allowed says = absurd (false≢true allowed)
says_allowed t kind.Faulty why w allowed says = absurd (false≢true allowed)

says_forbidden : (t : Test) (k : Kind) (why : List ℕ) (w : Option Witness) → is_forbidden k ≡ true → Says t k why w → IsForbidden t
says_forbidden t kind.Forbidden why None forbidden says = says.forbidden
says_forbidden t kind.Forbidden why (Some v) forbidden says = absurd says
says_forbidden t kind.Allowed why w forbidden says = absurd (false≢true forbidden)
says_forbidden t kind.Vacuous why w forbidden says = absurd (false≢true forbidden)
says_forbidden t kind.Faulty why w forbidden says = absurd (false≢true forbidden)

no_text : (t : Test) → Reads [] t → ⊥
no_text t reads = absurd (let none = reads.has_form.has_tokens.has_body.after_title in cc)

some_once : (w : Option Witness) (v u : Witness) → w ≡ Some v → w ≡ Some u → v ≡ u
some_once w v u e k = cc

pub is_shown : (line : Line) → is_allowed line.said.kind ≡ true → (test : List ℕ) (w : Witness) → IsJudged line test
    → witness_in line.said.witness ≡ Some w → IsNotShown no_fences test w → ⊥
is_shown line allowed test w (inr (none, rest)) has not = no_text not.the_test (subst (λ bytes. Reads bytes not.the_test) none not.reads)
is_shown line allowed test w (inl is) has not =
    let of = tested is_allowed refl test line.said.kind (string_bytes line.said.why) (witness_in line.said.witness) allowed is in
    let says = says_allowed of.the_test line.said.kind (string_bytes line.said.why) (witness_in line.said.witness) allowed of.says in
    let one : says.0 ≡ w = some_once _ says.0 w says.1 has in
    let same = reads_once test of.the_test not.the_test of.reads not.reads in
    let e = says.2.execution in
    not.shown (
      e,
      (
        subst (λ v. IsOfWitness not.the_test v e) one (given_same of.the_test not.the_test says.0 e same says.2.given),
        shown_same of.the_test not.the_test e same says.2.shows,
      ),
    )

pub is_ruled_out : (line : Line) → is_forbidden line.said.kind ≡ true → (test : List ℕ) → IsJudged line test → IsAllowed test → ⊥
is_ruled_out line forbidden test (inr (none, rest)) shown = no_text shown.0 (subst (λ bytes. Reads bytes shown.0) none shown.1)
is_ruled_out line forbidden test (inl is) shown =
    let of = tested is_forbidden refl test line.said.kind (string_bytes line.said.why) (witness_in line.said.witness) forbidden is in
    let e = shown.2.0 in
    says_forbidden of.the_test line.said.kind (string_bytes line.said.why) (witness_in line.said.witness) forbidden of.says
    (e, shown_same shown.0 of.the_test e (reads_once test shown.0 of.the_test shown.1 of.reads) shown.2.1)
