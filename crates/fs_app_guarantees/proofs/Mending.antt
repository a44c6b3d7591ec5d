-- The fences that `audit` advises rule the outcome out, and those that name devices stay.
use Rattle.std.proofs.Common.{◌≡◌, ◌≤◌, ℕ, List, Option, None, Some, Ok, ap, filter, inl, inr, length, map, ◌∙◌, refl, subst, sym}
use Rattle.fs_kinds.specs.declared.placement.Entry.{Entry}
use Rattle.fs_app_io.specs.declared.status.Status.{Status}
use Rattle.fs_model.specs.declared.test.Test.{Test}
use Rattle.fs_model.specs.Allows.{Allows, no_fences}
use Rattle.fs_model.specs.Condition.{Condition, SpeaksOf, nesting}
use Rattle.fs_model.specs.Fenced.{fenced, fenced_codes}
use Rattle.fs_model.specs.Printed.{printed}
use Rattle.fs_model.specs.Test.{IsBounded, IsSame, IsTest}
use Rattle.fs_litmus.specs.Reads.{Reads}
use Rattle.fs_litmus.proofs.ReadsTest.{is_test}
use Rattle.fs_litmus.proofs.ReadsOnce.{reads_once}
use Rattle.fs_kinds.specs.PriceTable.{PriceTable}
use Rattle.fs_app_audit.specs.Audit.{IsAdvised, IsMended, IsWritten, fenced_text, of_file, of_printed}
use Rattle.fs_app_audit.specs.Unfenced.{names_devices, unfenced}
use Rattle.fs_litmus.proofs.Fencing.{read_back}
use Rattle.fs_app_audit.proofs.Bare.{test_unfenced}
use Rattle.fs_app_guarantees.specs.Audits.{IsNothingOrKeepsDevices, IsNothingOrMended, device_fences}
use Rattle.fs_app_guarantees.specs.Headline.{IsPossible}
use Rattle.fs_app_guarantees.proofs.Devices.{devices_stay}
use Rattle.fs_app_guarantees.proofs.Kept.{Keeps, carried, same_whole}
use Rattle.fs_app_guarantees.proofs.KeptPlacements.{allows_same}
use Rattle.fs_app_guarantees.proofs.Meaning.{ruled_out}

-- whether it is a test doesn't depend on where the parts of its condition lie
bounded : Keeps IsBounded
bounded u v e h = record {
  starts = h.starts;
  forward = h.forward;
  atoms = subst (λ (c : Condition). SpeaksOf (length u.codes) (length u.locations) c) (sym e) h.atoms;
  harts = h.harts;
  lengths = h.lengths;
  accesses = h.accesses;
  locations = h.locations;
  depth = subst (λ (c : Condition). nesting c ≤ 64) (sym e) h.depth;
}

tested : Keeps IsTest
tested u v e h = record {
  utf8 = h.utf8;
  bounded = bounded u v e h.bounded;
  title = h.title;
  some_hart = h.some_hart;
  registers = h.registers;
  instructions = h.instructions;
  named = h.named;
  distinct = h.distinct;
  words = h.words;
}

bare_is_test : (t bare : Test) → IsTest t → IsSame bare (unfenced t) → IsTest bare
bare_is_test t bare h same = (carried IsTest tested bare (unfenced t) same).1 (test_unfenced t h)

-- the fences that are advised forbid the outcome
forbids : (bare : Test) (prices : PriceTable) (written p : List Entry) → IsAdvised bare prices written (Some p) → Allows bare p → ⊥
forbids bare prices written p (inl kept) = subst (λ (q : List Entry). Allows bare q → ⊥) (sym kept.0) kept.1.1.forbids
forbids bare prices written p (inr first) = first.0.forbids

best_is_mended : (bare : Test) (prices : PriceTable) (written : List Entry) (best : Option (List Entry)) → IsTest bare
    → IsAdvised bare prices written best → IsNothingOrMended (fenced_text bare best)
best_is_mended bare prices written None h is = inl refl
best_is_mended bare prices written (Some p) h is =
    inr (λ u reads possible. ruled_out bare h p (forbids bare prices written p is) u (inr reads) possible)

mended : (test prices text : List ℕ) (status : Status) → IsMended test prices text status → IsNothingOrMended text
mended test prices text status is =
    let f = is.findings in
    let own = is_test test f.test is.found.reads in
    subst IsNothingOrMended (sym is.shown)
    (best_is_mended f.bare f.prices f.written f.best (bare_is_test f.test f.bare own is.found.bare) is.found.best)

possible_alike : (t u : Test) → IsSame t u → IsPossible t → IsPossible u
possible_alike t u s h =
    (allows_same t u s (no_fences u)).0 (subst (λ (p : List Entry). Allows t p) (ap no_fences (same_whole t u s)) h)

pub written : (test prices text : List ℕ) (status : Status) → IsWritten test prices text status → IsNothingOrMended text
written test prices text status (of_printed is) = mended test prices text status is
written test prices text status (of_file is) =
    let made = is.shown.made in
    inr (λ u reads possible. is.shown.forbidden (possible_alike u made (reads_once text u made reads is.shown.reads) possible))

-- ---- the FENCEs that name devices

still_there : (file text : List ℕ) (t bare : Test) (p : List Entry) → Reads file t → IsTest bare → IsSame bare (unfenced t)
    → text ≡ printed (fenced bare p) → (own u : Test) → Reads file own → Reads text u → device_fences u ≡ device_fences own
still_there file text t bare p reads h left is own u again printing =
    ap (map (filter names_devices)) (read_back bare p text (Ok u) h is printing).codes
    ∙ ap (λ codes. map (filter names_devices) (fenced_codes p codes)) left.codes
    ∙ devices_stay p t.codes
    ∙ ap (map (filter names_devices)) (reads_once file t own reads again).codes

best_keeps : (file text : List ℕ) (t bare : Test) (best : Option (List Entry)) → Reads file t → IsTest bare → IsSame bare (unfenced t)
    → text ≡ fenced_text bare best → IsNothingOrKeepsDevices file text
best_keeps file text t bare None reads h left is = inl is
best_keeps file text t bare (Some p) reads h left is = inr (still_there file text t bare p reads h left is)

pub keeps_devices : (test prices text : List ℕ) (status : Status) → IsMended test prices text status → IsNothingOrKeepsDevices test text
keeps_devices test prices text status is =
    let f = is.findings in
    let own = is_test test f.test is.found.reads in
    best_keeps test text f.test f.bare f.best is.found.reads (bare_is_test f.test f.bare own is.found.bare) is.found.bare is.shown
