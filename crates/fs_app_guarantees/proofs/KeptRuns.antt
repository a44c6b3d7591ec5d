-- The faults of a test's runs don't look at its condition.
use Rattle.std.proofs.Common.{◌↔◌, inl, inr, ℕ, List}
use Rattle.fs_kinds.specs.declared.fault.Fault.{Fault}
use Rattle.fs_kinds.specs.declared.fault.Fault.TheVariants as fault
use Rattle.fs_model.specs.declared.test.Test.{Test}
use Rattle.fs_model.specs.Test.{IsSame}
use Rattle.fs_model.specs.declared.step.Choice.{Choice}
use Rattle.fs_model.specs.Values.{IsValueAfter}
use Rattle.fs_model.specs.TooMany.{AreMoreThan, most_choice_lists, EndsAstray, Ends, IsFirstAstray, IsHartFault, IsRunFault}
use Rattle.fs_app_guarantees.proofs.Kept.{with_condition_of, Keeps, back, carried, each}

pub more : {X : Type 0} (n : ℕ) (P Q : X → Type 0) → ((x : X) → P x → Q x) → AreMoreThan n P → AreMoreThan n Q
more n P Q f h = (h.0, h.1, each P Q f h.0 h.2, h.3)

-- V says which words a load may take at each location
module _ (V : ℕ → ℕ → Type 0) (hart : ℕ) where
  astray : (choices : List Choice) (at : ℕ) → Keeps (λ t. EndsAstray t V hart choices at)
  astray choices at u v e h = record { steps = h.steps; astray = h.astray; all_taken = h.all_taken; loads = h.loads }

  ends : (choices : List Choice) → Keeps (λ t. Ends t V hart choices)
  ends choices u v e (inl whole) = inl whole
  ends choices u v e (inr h) = inr (h.0, astray choices h.0 u v e h.1)

  many_lists : Keeps (λ t. AreMoreThan most_choice_lists (Ends t V hart))
  many_lists u v e =
      more most_choice_lists (Ends u V hart) (Ends (with_condition_of v u) V hart) (λ choices. ends choices u v e)

  first_astray : (at : ℕ) → Keeps (λ t. IsFirstAstray t V hart at)
  first_astray at u v e h = (
    h.0,
    astray h.0 at u v e h.1,
    λ others k x. h.2 others k (back (λ t. EndsAstray t V hart others k) (astray others k) u v e x),
  )

  hart_fault : (f : Fault) → Keeps (λ t. IsHartFault t V hart f)
  hart_fault fault.TooManyTraces u v e h = many_lists u v e h
  hart_fault (fault.Astray g at) u v e h = (
    h.0,
    λ x. h.1 (back (λ t. AreMoreThan most_choice_lists (Ends t V hart)) many_lists u v e x),
    first_astray at u v e h.2,
  )
  hart_fault other u v e h = h

pub run_fault : (f : Fault) → Keeps (λ t. IsRunFault t f)
run_fault f u v e h =
    record {
      round = h.round;
      hart = h.hart;
      round_of_test = h.round_of_test;
      hart_of_test = h.hart_of_test;
      met = hart_fault (IsValueAfter u h.round) h.hart f u v e h.met;
      first =
          λ n k g below sooner x.
          h.first n k g below sooner
          (back (λ t. IsHartFault t (IsValueAfter u n) k g) (hart_fault (IsValueAfter u n) k g) u v e x);
    }

pub run_fault_same : (t u : Test) → IsSame t u → (f : Fault) → IsRunFault t f ↔ IsRunFault u f
run_fault_same t u s f = carried (λ x. IsRunFault x f) (run_fault f) t u s
