-- The printed form of a test has no fault but that a hart may be too long.
use Rattle.std.proofs.Common.{◌≡◌, ◌≢◌, inr, nat_lt, ℕ, ◌≤◌, ◌<◌, List, [], ◌∷◌, length, All, Option, Some, None, Bool, true, false, ◌&&◌, Result, Ok, Err, IfErr, refl, sym, ap, ◌∙◌, subst, arith, zero, suc}
use Rattle.std.specs.Prelude.{is_some, option_map, sum_by, count_by}
use Rattle.std.specs.List.{Any}
use Rattle.std.proofs.lemmas.List.{length-map}
use Rattle.fs_kinds.specs.declared.fault.Fault.{Fault}
use Rattle.fs_kinds.specs.declared.fault.Fault.TheVariants.{Memory, TooBig}
use Rattle.fs_kinds.specs.declared.fault.Limit.{Limit}
use Rattle.fs_kinds.specs.declared.fault.Limit.TheVariants.{Instructions}
use Rattle.fs_kinds.specs.declared.placement.Entry.{Entry}
use Rattle.fs_litmus_syntax.specs.Form.{Form}
use Rattle.fs_litmus_syntax.specs.Body.{flatten}
use Rattle.fs_litmus_syntax.specs.Grammar.{Syntax, Atom, True, False, Deny, Group, Both, Either}
use Rattle.fs_litmus_syntax.specs.Meaning as meaning
use Rattle.fs_litmus_syntax.specs.Meaning.{atoms_of, depth_of}
use Rattle.fs_instr.specs.Instructions.{is_memory}
use Rattle.fs_instr.specs.declared.instr.Instr.{Instr}
use Rattle.fs_kinds.specs.FaultOrder.{IsFirst, IsNoLater}
use Rattle.fs_litmus_syntax.proofs.HartLemmas.{codes_only, codes_clean}
use Rattle.fs_model.specs.Condition as ours
use Rattle.fs_kinds.specs.Placement.{slots_of}
use Rattle.fs_model.specs.Slots.{slots}
use Rattle.fs_model.specs.Fenced.{fenced}
use Rattle.fs_model.specs.Printed.{printed}
use Rattle.fs_model.specs.Test.{IsTest}
use Rattle.fs_model.specs.declared.test.Test.{Test}
use Rattle.fs_litmus.specs.Atoms.{atom_at, condition_in}
use Rattle.fs_litmus.specs.Faults.{IsPassed, harts, instructions, accesses, locations, depth, IsFormFault, code, entry, atom, limit, HasFault, encoding, title, form, meaning as of_form}
use Rattle.fs_litmus.specs.Locations.{Names}
use Rattle.fs_litmus.specs.Reads.{MeanTest, names_in}
use Rattle.fs_litmus.specs.Settings.{setting_of, are_there}
use Rattle.fs_litmus.specs.declared.settings.Setting.{Setting}
use Rattle.fs_litmus.proofs.BadEntries.{none_bad}
use Rattle.fs_litmus.proofs.FrontFaults.{unbroken}
use Rattle.fs_litmus.proofs.Interpreting.{both_there, deny_there}
use Rattle.fs_litmus.proofs.There.{are_both_there}
use Rattle.fs_litmus.proofs.Once.{parts_once}
use Rattle.fs_litmus.specs.Fence.{IsShort, IsFenceFault, long}
use Rattle.fs_litmus.specs.inner.Printable.{IsPrintable}
use Rattle.fs_litmus.proofs.FencedPrintable.{fenced_printable}
use Rattle.fs_litmus.proofs.PrintedBytesWhole.{printed_title, printed_utf8}
use Rattle.fs_litmus.proofs.PrintedMeaningCondition.{depth_within}
use Rattle.fs_litmus.proofs.PrintedReads.{syntax_in, is_printed}

-- ---- where a condition means something, its atoms are of what is there

both_true : (a b : Bool) → a ≡ true → b ≡ true → (a && b) ≡ true
both_true true true e f = refl
both_true true false e f = f
both_true false b e f = e

module _ (columns : ℕ) (names : Names) where
  one_there : (o : Option Setting) (c : ours.Condition) → option_map (λ s. atom_at s.holder s.word) o ≡ Some c → (is_some o && true) ≡ true
  one_there None c e = absurd (cc)
  one_there (Some s) c e = refl

  there : (s : Syntax) (c : ours.Condition) → condition_in columns names (meaning.condition_of s) ≡ Some c → are_there columns names (atoms_of s) ≡ true
  there (Atom t v) c e = one_there (setting_of columns names (t, v)) c e
  there True c e = refl
  there False c e = refl
  there (Deny s) c e = let x = deny_there (condition_in columns names (meaning.condition_of s)) c e in there s x.0 x.1
  there (Group s) c e = there s c e
  there (Both a b) c e =
      let x = both_there ours.Both (condition_in columns names (meaning.condition_of a)) (condition_in columns names (meaning.condition_of b)) c e in
      are_both_there columns names (atoms_of a) (atoms_of b) ∙ both_true (are_there columns names (atoms_of a)) (are_there columns names (atoms_of b)) (there a x.0 x.2) (there b x.1 x.3)
  there (Either a b) c e =
      let x = both_there ours.Either (condition_in columns names (meaning.condition_of a)) (condition_in columns names (meaning.condition_of b)) c e in
      are_both_there columns names (atoms_of a) (atoms_of b) ∙ both_true (are_there columns names (atoms_of a)) (are_there columns names (atoms_of b)) (there a x.0 x.2) (there b x.1 x.3)

-- ---- a code that is longer

none_longer : (codes : List (List Instr)) → All (λ code. length code ≤ 32) codes → Any (λ code. 32 < length code) codes → ⊥
none_longer codes short (k, x, low, is, more) = let few = short k x low in let same = ap length is in omega (arith, few, same, more)

-- the fault is that a hart is too long, and one is
abbrev IsLong : Test → Fault → Type 0
IsLong u f = (f ≡ TooBig Instructions) × ¬ IsShort u

module _ (u : Test) (h : IsPrintable u) (f : Form) (s : Syntax) (m : MeanTest f s u) (shallow : depth_of s ≤ 64) where
  passed : (what : Limit) → IsPassed f s what → IsLong u (TooBig what)
  passed what (harts many) = let few = h.bounded.harts in let count = m.codes.count in absurd (omega (arith, few, count, many))
  passed what (instructions {codes = cs} are any) = (refl, λ short. none_longer cs (subst (λ x. All (λ code. length code ≤ 32) x) (codes_only f.columns (flatten f.rows) u.codes cs m.codes are) short) any)
  passed what (accesses {codes = cs} are many) = let few = subst (λ x. sum_by (count_by is_memory) x ≤ 48) (codes_only f.columns (flatten f.rows) u.codes cs m.codes are) h.bounded.accesses in absurd (omega (arith, few, many))
  passed what (locations many) = let few = h.bounded.locations in let named = sym (length-map u.locations (λ x. x.name)) ∙ ap length m.locations.named in absurd (omega (arith, few, named, many))
  passed what (depth more) = absurd (omega (arith, shallow, more))

  form_fault : (g : Fault) → IsFormFault f s g → IsLong u g
  form_fault g (code k) = absurd (codes_clean f.columns (flatten f.rows) u.codes g m.codes k)
  form_fault g (entry b) = absurd (none_bad f.columns (names_in f s) f.entries m.settings m.are_settings _ b)
  form_fault g (atom a) = absurd (let e = there f.columns (names_in f s) s (ours.condition_of u.condition) m.condition in cc)
  form_fault g (limit p) = passed _ p

faults : (u : Test) → IsPrintable u → (g : Fault) → HasFault (printed u) g → IsLong u g
faults u h g (encoding n) = absurd (n (printed_utf8 u h h.utf8))
faults u h g (title n) = absurd (n u.name (printed_title u h))
faults u h g (form b) = let p = is_printed u h in absurd (unbroken (printed u) p.form (syntax_in u) _ p.has_form b)
faults u h g (of_form {form = f} {s = r} k x) =
    let p = is_printed u h in
    let same = parts_once (printed u) f p.form r (syntax_in u) k p.has_form in
    let here = subst (λ s. IsFormFault p.form s g) same.condition (subst (λ q. IsFormFault q r g) same.form x) in
    form_fault u h p.form (syntax_in u) p.means (depth_within u.locations (ours.condition_of u.condition) h.bounded.depth) g here

-- ---- a hart that is too long

all_short : (c : List Instr) (cs : List (List Instr)) → length c ≤ 32 → All (λ code. length code ≤ 32) cs → All (λ code. length code ≤ 32) (c ∷ cs)
all_short c cs few all zero d low = few
all_short c cs few all (suc k) d low = all k d (omega (arith, low))

first_or_later : (b : Bool) (c : List Instr) (cs : List (List Instr)) → nat_lt 32 (length c) ≡ b → ¬ All (λ code. length code ≤ 32) (c ∷ cs) → (¬ All (λ code. length code ≤ 32) cs → Any (λ code. 32 < length code) cs) → Any (λ code. 32 < length code) (c ∷ cs)
first_or_later true c cs e none later = let many : 32 < length c = grind (arith, e) in (0, c, omega arith, refl, many)
first_or_later false c cs e none later =
    let few : length c ≤ 32 = grind (arith, e) in
    let found = later (λ all. none (all_short c cs few all)) in
    let low = found.2 in
    (suc found.0, found.1, omega (arith, low), found.3, found.4)

longer : (codes : List (List Instr)) → ¬ All (λ code. length code ≤ 32) codes → Any (λ code. 32 < length code) codes
longer [] none = absurd (none (λ k d low. absurd (omega (arith, low))))
longer (c ∷ cs) none = first_or_later (nat_lt 32 (length c)) c cs refl none (longer cs)

no_later : (f g : Fault) → g ≡ f → IsNoLater f g
no_later f g e = subst (IsNoLater f) (sym e) (inr (refl, omega arith))

pub long_first : (u : Test) → IsPrintable u → ¬ IsShort u → IsFirst (HasFault (printed u)) (TooBig Instructions)
long_first u h many =
    let p = is_printed u h in
    record {
      is = of_form p.has_form (limit (instructions p.means.codes (longer u.codes many)));
      first = λ g k. no_later (TooBig Instructions) g (faults u h g k).0;
    }

pub not_read : (t : Test) (p : List Entry) (bytes : List ℕ) (r : Result Test Fault) → IsTest t → slots_of p ≡ slots t → bytes ≡ printed (fenced t p) → IfErr r (λ f. f ≢ Memory → IsFirst (HasFault bytes) f) → IfErr r (λ f. f ≢ Memory → IsFenceFault t p f)
not_read t p bytes (Ok u) h same e k = tt
not_read t p bytes (Err f) h same e k = λ known.
    let found = faults (fenced t p) (fenced_printable t p h) f (subst (λ b. HasFault b f) e (k known).is) in
    subst (IsFenceFault t p) (sym found.0) (long same found.1)
