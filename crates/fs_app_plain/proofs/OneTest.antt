-- What is said of the runs of a test is said of each test that the same text reads as: they differ in where the parts of
-- their conditions lie in memory, at which runs don't look.
use Rattle.std.proofs.Common.{◌≡◌, inl, inr, ℕ, List, ap, subst, ◌∙◌}
use Rattle.fs_kinds.specs.declared.fault.Fault.{Fault}
use Rattle.fs_kinds.specs.declared.fault.Fault.TheVariants as fault
use Rattle.fs_model.specs.declared.outcome.Outcome.{Outcome}
use Rattle.fs_model.specs.declared.test.Test.{Test}
use Rattle.fs_model.specs.declared.step.Choice.{Choice}
use Rattle.fs_model.specs.Test.{IsSame}
use Rattle.fs_model.specs.Values.{IsValueAfter}
use Rattle.fs_model.specs.TooMany.{AreMoreThan, most_choice_lists, EndsAstray, Ends, IsFirstAstray, IsHartFault, IsRunFault}
use Rattle.fs_values.specs.ThinAir.{MeetsNoFault, CanBeListed}
use Rattle.fs_litmus.specs.Reads.{Reads}
use Rattle.fs_litmus.proofs.ReadsOnce.{reads_once}
use Rattle.fs_app_plain.specs.Wide.{IsExactTest}
use Rattle.fs_app_plain.specs.Exactly.{IsExactText}

-- the test with another condition
abbrev changed : Outcome → Test → Test
changed o t = record t { condition = o }

-- P doesn't look at the condition
abbrev Stays : (Test → Type 0) → Type 0
Stays P = (t : Test) (o : Outcome) → P t → P (changed o t)

back : (P : Test → Type 0) → Stays P → (t : Test) (o : Outcome) → P (changed o t) → P t
back P stays t o h = stays (changed o t) t.condition h

same_whole : (t u : Test) → IsSame t u → t ≡ changed t.condition u
same_whole t u s =
    ap (λ x. record t { name = x }) s.name
    ∙ ap (λ x. record t { name = u.name; codes = x }) s.codes
    ∙ ap (λ x. record t { name = u.name; codes = u.codes; starts = x }) s.starts
    ∙ ap (λ x. record u { locations = x; quantifier = t.quantifier; condition = t.condition }) s.locations
    ∙ ap (λ x. record u { quantifier = x; condition = t.condition }) s.quantifier

carried : (P : Test → Type 0) → Stays P → (t u : Test) → IsSame t u → P t → P u
carried P stays t u s h = back P stays u t.condition (subst P (same_whole t u s) h)

-- ---- the faults of runs

more : {X : Type 0} (n : ℕ) (P Q : X → Type 0) → ((x : X) → P x → Q x) → AreMoreThan n P → AreMoreThan n Q
more n P Q f h = (h.0, h.1, λ k d below. f _ (h.2 k d below), h.3)

-- V says which words a load may take at each location
module _ (V : ℕ → ℕ → Type 0) (hart : ℕ) where
  astray : (choices : List Choice) (at : ℕ) → Stays (λ t. EndsAstray t V hart choices at)
  astray choices at t o h = record { steps = h.steps; astray = h.astray; all_taken = h.all_taken; loads = h.loads }

  ends : (choices : List Choice) → Stays (λ t. Ends t V hart choices)
  ends choices t o (inl whole) = inl whole
  ends choices t o (inr h) = inr (h.0, astray choices h.0 t o h.1)

  many : Stays (λ t. AreMoreThan most_choice_lists (Ends t V hart))
  many t o =
      more most_choice_lists (Ends t V hart) (Ends (changed o t) V hart) (λ choices. ends choices t o)

  first_astray : (at : ℕ) → Stays (λ t. IsFirstAstray t V hart at)
  first_astray at t o h = (
    h.0,
    astray h.0 at t o h.1,
    λ others k x. h.2 others k (back (λ u. EndsAstray u V hart others k) (astray others k) t o x),
  )

  hart_fault : (f : Fault) → Stays (λ t. IsHartFault t V hart f)
  hart_fault fault.TooManyTraces t o h = many t o h
  hart_fault (fault.Astray g at) t o h = (
    h.0,
    λ x. h.1 (back (λ u. AreMoreThan most_choice_lists (Ends u V hart)) many t o x),
    first_astray at t o h.2,
  )
  hart_fault other t o h = h

run_fault : (f : Fault) → Stays (λ t. IsRunFault t f)
run_fault f t o h =
    record {
      round = h.round;
      hart = h.hart;
      round_of_test = h.round_of_test;
      hart_of_test = h.hart_of_test;
      met = hart_fault (IsValueAfter t h.round) h.hart f t o h.met;
      first =
          λ n k g below sooner x.
          h.first n k g below sooner
          (back (λ u. IsHartFault u (IsValueAfter t n) k g) (hart_fault (IsValueAfter t n) k g) t o x);
    }

no_fault : Stays MeetsNoFault
no_fault t o h = λ f x. h f (back (λ u. IsRunFault u f) (run_fault f) t o x)

-- ---- steps that are exact

exact : Stays IsExactTest
exact t o h = h

-- ---- the text of a test

pub one_test : (text : List ℕ) (t : Test) → Reads text t → CanBeListed t → IsExactTest t → IsExactText text
one_test text t h listed is_exact = record {
  each =
      λ u k.
      let same = reads_once text t u h k in
      (carried MeetsNoFault no_fault t u same listed.no_fault, carried IsExactTest exact t u same is_exact);
}
