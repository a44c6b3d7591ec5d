-- A text that has a fault reads as no test.
use Rattle.std.proofs.Common.{◌≡◌, ◌≢◌, ℕ, ◌≤◌, List, length, All, Option, Some, None, Bool, true, false, ◌&&◌, refl, ◌∙◌, subst, arith}
use Rattle.std.specs.Prelude.{is_some, option_map, sum_by, count_by}
use Rattle.fs_kinds.specs.declared.fault.Fault.{Fault}
use Rattle.fs_kinds.specs.declared.fault.Fault.TheVariants.{Memory}
use Rattle.fs_instr.specs.Instructions.{is_memory}
use Rattle.fs_litmus_syntax.specs.Form.{Form}
use Rattle.fs_litmus_syntax.specs.Body.{flatten}
use Rattle.fs_litmus_syntax.specs.Grammar.{Syntax, Atom, True, False, Deny, Group, Both, Either}
use Rattle.fs_litmus_syntax.specs.Meaning.{atoms_of, condition_of as meant}
use Rattle.fs_litmus_syntax.proofs.HartLemmas.{codes_only, codes_clean}
use Rattle.fs_model.specs.Condition as ours
use Rattle.fs_model.specs.declared.test.Test.{Test}
use Rattle.fs_litmus.specs.Atoms.{atom_at, condition_in}
use Rattle.fs_litmus.specs.Checks as checks
use Rattle.fs_litmus.specs.Faults.{IsFormFault, HasFault, IsTestFault}
use Rattle.fs_litmus.specs.Locations.{Names}
use Rattle.fs_litmus.specs.Reads.{MeanTest, IsWithinLimits, Reads, HasForm, names_in}
use Rattle.fs_litmus.specs.Settings.{setting_of, are_there}
use Rattle.fs_litmus.specs.declared.settings.Setting.{Setting}
use Rattle.fs_litmus.proofs.FormFaults.{AreCodesSmall, none_passed, no_binding_fault, no_form_fault}
use Rattle.fs_litmus.proofs.FrontFaults.{no_fault}
use Rattle.fs_litmus.proofs.Interpreting.{both_there, deny_there}
use Rattle.fs_litmus.proofs.Kept.{none_long}
use Rattle.fs_litmus.proofs.Once.{parts_once}
use Rattle.fs_litmus.proofs.There.{are_both_there}
use Rattle.fs_app_plain.specs.Exactly.{IsExactText}

-- ---- where a condition means something, its atoms are of what is there

both_true : (a b : Bool) → a ≡ true → b ≡ true → (a && b) ≡ true
both_true true b e f = f
both_true false b e f = e

module _ (columns : ℕ) (names : Names) where
  abbrev means_in : Syntax → Option ours.Condition
  means_in s = condition_in columns names (meant s)

  abbrev AreThere : Syntax → Type 0
  AreThere s = are_there columns names (atoms_of s) ≡ true

  one_there : (o : Option Setting) (c : ours.Condition) → option_map (λ s. atom_at s.holder s.word) o ≡ Some c
      → (is_some o && true) ≡ true
  one_there None c e = absurd (cc)
  one_there (Some s) c e = refl

  two_there : (a b : Syntax) → AreThere a → AreThere b → AreThere (Both a b)
  two_there a b h k =
      are_both_there columns names (atoms_of a) (atoms_of b)
      ∙ both_true (are_there columns names (atoms_of a)) (are_there columns names (atoms_of b)) h k

  there : (s : Syntax) (c : ours.Condition) → means_in s ≡ Some c → AreThere s
  there (Atom t v) c e = one_there (setting_of columns names (t, v)) c e
  there True c e = refl
  there False c e = refl
  there (Deny s) c e = let x = deny_there (means_in s) c e in there s x.0 x.1
  there (Group s) c e = there s c e
  there (Both a b) c e =
      let x = both_there ours.Both (means_in a) (means_in b) c e in
      two_there a b (there a x.0 x.2) (there b x.1 x.3)
  there (Either a b) c e =
      let x = both_there ours.Either (means_in a) (means_in b) c e in
      two_there a b (there a x.0 x.2) (there b x.1 x.3)

-- ---- what means a test has no fault

module _ (form : Form) (s : Syntax) (t : Test) (means : MeanTest form s t) (limits : IsWithinLimits form s t) where
  small : AreCodesSmall form
  small codes are f (checks.instructions any) =
      let same = codes_only form.columns (flatten form.rows) t.codes codes means.codes are in
      none_long codes (subst (λ cs. All (λ code. length code ≤ 32) cs) same limits.instructions) any
  small codes are f (checks.accesses many) =
      let same = codes_only form.columns (flatten form.rows) t.codes codes means.codes are in
      let few = subst (λ cs. sum_by (count_by is_memory) cs ≤ 48) same limits.accesses in
      omega (arith, few, many)

  clean : (f : Fault) → ¬ IsFormFault form s f
  clean =
      let present = there form.columns (names_in form s) s (ours.condition_of t.condition) means.condition in
      no_form_fault form s (λ f. codes_clean form.columns (flatten form.rows) t.codes f means.codes)
      (no_binding_fault form s (names_in form s) means.settings refl means.are_settings present)
      (none_passed form s limits.harts small limits.locations limits.depth)

-- ---- the whole

reads_clean : (text : List ℕ) (t : Test) (f : Fault) → Reads text t → ¬ HasFault text f
reads_clean text t f h =
    let here = clean h.form h.syntax_of t h.means h.limits f in
    let each : (g : Form) (r : Syntax) → HasForm text g r → ¬ IsFormFault g r f = λ g r k.
    let same = parts_once text h.form g h.syntax_of r h.has_form k in
    subst (λ q. ¬ IsFormFault q r f) same.form (subst (λ q. ¬ IsFormFault h.form q f) same.condition here)
    in
    no_fault text t.name h.form h.syntax_of f h.utf8 h.title h.has_form each

pub reads_as_none : (text : List ℕ) (f : Fault) → (f ≢ Memory → IsTestFault text f) → f ≢ Memory → IsExactText text
reads_as_none text f known other =
    let fault = (known other).is in
    record { each = λ t h. absurd (reads_clean text t f h fault) }
