-- Executions, witnesses, and the faults of a test's runs and candidates look at its program alone.
use Rattle.std.proofs.Common.{◌≡◌, inl, inr, sym, ℕ, List}
use Rattle.std.proofs.lemmas.List.Elements.{All-weaker}
use Rattle.fs_kinds.specs.declared.fault.Fault.{Fault}
use Rattle.fs_kinds.specs.declared.fault.Fault.TheVariants as fault
use Rattle.fs_kinds.specs.declared.placement.Entry.{Entry}
use Rattle.fs_model.specs.declared.step.Choice.{Choice}
use Rattle.fs_model.specs.declared.step.Step.{Step}
use Rattle.fs_model.specs.declared.test.Test.{Test}
use Rattle.fs_model.specs.OfTests.{program_of}
use Rattle.fs_model.specs.Execution.{Execution, IsExecution}
use Rattle.fs_model.specs.Test.{IsBounded}
use Rattle.fs_model.specs.TooMany.{AreMoreThan, most_choice_lists, EndsAstray, Ends, IsFirstAstray, IsHartFault, IsRunFault}
use Rattle.fs_model.specs.Values.{IsValueAfter, AreRunsOverValues}
use Rattle.fs_model.specs.Witness.{Witness, IsOfWitness}
use Rattle.fs_cert_evidence.specs.Candidates.{Candidate, IsRaw}
use Rattle.fs_cert_evidence.specs.CandidateFaults.{most_candidates, HasTooMany, IsCandidateFault}
use Rattle.fs_values.specs.ThinAir.{BeginsWithWords, CanBeListed}
pub use Rattle.fs_region_refutation.proofs.Programs.{with_program, Keeps, carried}

-- what is true with the program of another test is true of that
pub back : (P : Test → Type 0) → Keeps P → (t u : Test) → P (with_program (program_of t) u) → P t
back P keeps t u h = keeps (with_program (program_of t) u) t h

-- ---- executions and witnesses

pub execution : (p : List Entry) (e : Execution) → Keeps (λ t. IsExecution t p e)
execution p e t u h = record { harts = h.harts; runs = h.runs; axioms = h.axioms }

pub given : (w : Witness) (e : Execution) → Keeps (λ t. IsOfWitness t w e)
given w e t u h = record { lists = h.lists; harts = h.harts; runs = h.runs; order = h.order }

-- ---- faults

more : {X : Type 0} (n : ℕ) (P Q : X → Type 0) → ((x : X) → P x → Q x) → AreMoreThan n P → AreMoreThan n Q
more n P Q f h = (h.0, h.1, All-weaker P Q f h.0 h.2, h.3)

-- V says which words a load may take at each location
module _ (V : ℕ → ℕ → Type 0) (hart : ℕ) where
  astray : (choices : List Choice) (at : ℕ) → Keeps (λ t. EndsAstray t V hart choices at)
  astray choices at t u h = record { steps = h.steps; astray = h.astray; all_taken = h.all_taken; loads = h.loads }

  ends : (choices : List Choice) → Keeps (λ t. Ends t V hart choices)
  ends choices t u (inl whole) = inl whole
  ends choices t u (inr h) = inr (h.0, astray choices h.0 t u h.1)

  many_lists : Keeps (λ t. AreMoreThan most_choice_lists (Ends t V hart))
  many_lists t u =
      more most_choice_lists (Ends t V hart) (Ends (with_program (program_of t) u) V hart) (λ choices. ends choices t u)

  first_astray : (at : ℕ) → Keeps (λ t. IsFirstAstray t V hart at)
  first_astray at t u h = (
    h.0,
    astray h.0 at t u h.1,
    λ others k x. h.2 others k (back (λ x. EndsAstray x V hart others k) (astray others k) t u x),
  )

  hart_fault : (f : Fault) → Keeps (λ t. IsHartFault t V hart f)
  hart_fault fault.TooManyTraces t u h = many_lists t u h
  hart_fault (fault.Astray g at) t u h = (
    h.0,
    λ x. h.1 (back (λ x. AreMoreThan most_choice_lists (Ends x V hart)) many_lists t u x),
    first_astray at t u h.2,
  )
  hart_fault other t u h = h

run_fault : (f : Fault) → Keeps (λ t. IsRunFault t f)
run_fault f t u h =
    record {
      round = h.round;
      hart = h.hart;
      round_of_test = h.round_of_test;
      hart_of_test = h.hart_of_test;
      met = hart_fault (IsValueAfter t h.round) h.hart f t u h.met;
      first =
          λ n k g below sooner x.
          h.first n k g below sooner
          (back (λ y. IsHartFault y (IsValueAfter t n) k g) (hart_fault (IsValueAfter t n) k g) t u x);
    }

runs : (traces : List (List Step)) → Keeps (λ t. AreRunsOverValues t traces)
runs traces t u h = record { harts = h.harts; runs = h.runs; values = h.values }

raw : (c : Candidate) → Keeps (λ t. IsRaw t c)
raw c t u h =
    record {
      runs = runs c.traces t u h.runs;
      sources_for_each = h.sources_for_each;
      sources = h.sources;
      locations = h.locations;
      orders = h.orders;
    }

too_many : Keeps HasTooMany
too_many t u (inl h) =
    inl (more most_candidates (AreRunsOverValues t) (AreRunsOverValues (with_program (program_of t) u)) (λ traces. runs traces t u) h)
too_many t u (inr h) = inr (more most_candidates (IsRaw t) (IsRaw (with_program (program_of t) u)) (λ c. raw c t u) h)

pub candidate_fault : (f : Fault) → Keeps (λ t. IsCandidateFault t f)
candidate_fault fault.TooManyCandidates t u h =
    (λ f x. h.0 f (back (λ y. IsRunFault y f) (run_fault f) t u x), too_many t u h.1)
candidate_fault f t u h = run_fault f t u h

-- the limits of a condition are its own
pub can_be_listed : (t u : Test) → program_of t ≡ program_of u → IsBounded u → CanBeListed t → CanBeListed u
can_be_listed t u same bounded h = record {
  bounded = bounded;
  words = carried (λ x. BeginsWithWords x) (λ x y own. own) t u same h.words;
  no_fault = λ f fault. h.no_fault f (carried (λ x. IsRunFault x f) (run_fault f) u t (sym same) fault);
}
