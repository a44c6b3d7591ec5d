-- What the first reason against inferences says of them.
use Rattle.std.proofs.Common.{◌≡◌, ℕ, ◌+◌, Bool, true, false, Option, None, Some, List, [], ◌∷◌, ◌++◌, map, Result, IfOk, refl, sym, subst, ap}
use Rattle.std.specs.Prelude.{if◌then◌else◌}
use Rattle.std.specs.Borrow.{Bor}
use Rattle.std.proofs.lemmas.Result.{IfOk-weaker}
use Rattle.fs_kinds.specs.declared.fault.Fault.{Fault}
use Rattle.fs_kinds.specs.declared.placement.Entry.{Entry}
use Rattle.fs_kinds.specs.declared.reason.Reason.{Reason}
use Rattle.fs_kinds.specs.declared.reason.Reason.TheVariants as reason
use Rattle.fs_model.specs.declared.test.Test.{Test}
use Rattle.fs_model.specs.declared.step.Step.{Step}
use Rattle.fs_cert_evidence.specs.Candidates.{Candidate}
use Rattle.fs_cert_evidence.specs.Certificate.{Cycles, Listed, Inferred, Link, Inference}
use Rattle.fs_cert_evidence.specs.Refusals.{first_wrong, IsListRefusal, IsCyclesRefusal}
use Rattle.fs_cert_evidence.specs.Regions.{Region}
use Rattle.fs_cert_evidence.specs.Trees.{follows, left_after, roots, AreItsRuns}
use Rattle.fs_cert_evidence.specs.Inferences.{inference_of}
use Rattle.fs_cert_evidence.specs.declared.inference.Inference.{Inference as CodeInference}
use Rattle.fs_cert_json.specs.declared.certificate.CertifiedCycles.TheVariants.{Inferred as KeptInferences}
use Rattle.fs_cert_json.specs.Kept.{KeepsCycles}
use Rattle.fs_region_refutation.proofs.Walked.{none_to}
use Rattle.fs_check_certificate.specs.declared.held.Held.{Held}
use Rattle.fs_check_certificate.specs.declared.held.Held.TheVariants.{Inferred as HeldInferences}
use Rattle.fs_check_certificate.specs.Cycles.{IsCyclesVerdict}
use Rattle.fs_check_certificate.specs.Held.{test_in, Holds}

same_Some : {X : Type 0} (x y : X) → Some x ≡ Some y → x ≡ y
same_Some x y e = cc

-- ---- what the walk finds: where there is no reason, the inferences refute

-- what is said of inferences, over the one list of all runs of each hart
judged : (t : Test) (p : List Entry) (runs : ℕ → List (List Step)) (is : List Inference) (why : Option Reason)
    → AreItsRuns t runs → why ≡ first_wrong t p (roots t runs) is 0 → IsCyclesVerdict t p (Inferred is) why
judged t p runs is None all e =
    record { runs = runs; all = all; refuted = none_to t p (roots t runs) is 0 (sym e) }
judged t p runs is (Some why) all e = (runs, all, sym e)

-- what the walk finds, over some runs that are all runs of each hart
abbrev IsFound : Test → List Entry → List CodeInference → Option Reason → Type 0
IsFound t p kept why =
    (runs : ℕ → List (List Step)) × AreItsRuns t runs
    × (why ≡ first_wrong t p (roots t runs) (map inference_of kept) 0)

verdict_of : (t : Test) (p : List Entry) (kept : List CodeInference) (said : Cycles) (r : Result (Option Reason) Fault)
    → KeepsCycles (KeptInferences kept) said → IfOk r (IsFound t p kept) → IfOk r (IsCyclesVerdict t p said)
verdict_of t p kept (Listed cycles) r keeps found = absurd keeps
verdict_of t p kept (Inferred inferences) r keeps found = IfOk-weaker r _ _
    (λ why one. subst (λ (steps : List Inference). IsCyclesVerdict t p (Inferred steps) why) (sym keeps)
    (judged t p one.0 (map inference_of kept) why one.1 one.2)) found

pub held_verdict : (held : Held) (t : Test) (kept : Bor (List CodeInference)) (p : List Entry) (said : Cycles)
    (r : Result (Option Reason) Fault) → held ≡ HeldInferences t kept → Holds held said → IfOk r (IsFound t p kept.now)
    → IfOk r (IsCyclesVerdict (test_in held) p said)
held_verdict held t kept p said r same holds found =
    subst (λ (h : Held). IfOk r (IsCyclesVerdict (test_in h) p said)) (sym same)
    (verdict_of t p kept.now said r (by_form said (subst (λ (h : Held). Holds h said) same holds)) found)
  where
    by_form : (c : Cycles) → Holds (HeldInferences t kept) c → KeepsCycles (KeptInferences kept.now) c
    by_form (Listed cycles) h = absurd h
    by_form (Inferred inferences) h = h

-- ---- reasons against cycles are none against the tree

abbrev pub is_of_cycles : Reason → Bool
is_of_cycles reason.Cycles = true
is_of_cycles (reason.Cycle k) = true
is_of_cycles other = false

either : (b : Bool) (later : Option Reason) (k : ℕ) (why : Reason) → (later ≡ Some why → is_of_cycles why ≡ true)
    → (if b then later else Some (reason.Cycle k)) ≡ Some why → is_of_cycles why ≡ true
either true later k why so e = so e
either false later k why so e = ap is_of_cycles (sym (same_Some (reason.Cycle k) why e))

of_inferences : (t : Test) (p : List Entry) (regions : List Region) (inferences : List Inference) (k : ℕ) (why : Reason)
    → first_wrong t p regions inferences k ≡ Some why → is_of_cycles why ≡ true
of_inferences t p [] [] k why e = absurd (let none : None ≡ Some why = e in cc)
of_inferences t p [] (inference ∷ inferences) k why e = ap is_of_cycles (sym (same_Some reason.Cycles why e))
of_inferences t p (region ∷ regions) [] k why e = ap is_of_cycles (sym (same_Some reason.Cycles why e))
of_inferences t p (region ∷ regions) (inference ∷ inferences) k why e =
    let left = left_after t region inference ++ regions in
    either (follows t p region inference) (first_wrong t p left inferences (k + 1)) k why
    (λ wrong. of_inferences t p left inferences (k + 1) why wrong) e

of_list : (t : Test) (p : List Entry) (cs : List Candidate) (cycles : List (List Link)) (why : Reason)
    → IsListRefusal t p cs cycles why → is_of_cycles why ≡ true
of_list t p cs cycles reason.Cycles refused = refl
of_list t p cs cycles (reason.Cycle k) refused = refl
of_list t p cs cycles other refused = absurd refused

pub of_cycles : (t : Test) (p : List Entry) (cycles : Cycles) (why : Reason) → IsCyclesRefusal t p cycles why
    → is_of_cycles why ≡ true
of_cycles t p (Listed cycles) why refused = of_list t p refused.0 cycles why refused.2
of_cycles t p (Inferred inferences) why refused = of_inferences t p (roots t refused.0) inferences 0 why refused.2
