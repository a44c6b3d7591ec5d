-- Candidates, and which of them show the outcome.
use Rattle.std.proofs.Common.{◌≡◌, ◌↔◌, inl, inr, List, ap, ◌∙◌}
use Rattle.fs_kinds.specs.declared.fault.Fault.{Fault}
use Rattle.fs_kinds.specs.declared.fault.Fault.TheVariants as fault
use Rattle.fs_model.specs.Slots.{slots}
use Rattle.fs_model.specs.declared.test.Test.{Test}
use Rattle.fs_model.specs.Test.{IsSame}
use Rattle.fs_model.specs.declared.step.Step.{Step}
use Rattle.fs_model.specs.Shows.{holds, is_outcome, final_register}
use Rattle.fs_model.specs.TooMany.{IsRunFault}
use Rattle.fs_model.specs.Values.{AreRunsOverValues}
use Rattle.fs_cert_evidence.specs.Candidates.{Candidate, last_word, IsRaw, IsShowing}
use Rattle.fs_cert_evidence.specs.CandidateFaults.{most_candidates, HasTooMany, IsCandidateFault, IsCyclesFault}
use Rattle.fs_cert_evidence.specs.Certificate.{Cycles, Listed, Inferred}
use Rattle.fs_cert_evidence.specs.Listings.{IsListing}
use Rattle.fs_app_guarantees.proofs.Kept.{with_condition_of, Keeps, back, same_whole, carried}
use Rattle.fs_app_guarantees.proofs.KeptRuns.{more, run_fault}

pub slots_same : (t u : Test) → IsSame t u → slots t ≡ slots u
slots_same t u s = ap slots (same_whole t u s)

runs : (traces : List (List Step)) → Keeps (λ t. AreRunsOverValues t traces)
runs traces u v e h = record { harts = h.harts; runs = h.runs; values = h.values }

raw : (c : Candidate) → Keeps (λ t. IsRaw t c)
raw c u v e h =
    record {
      runs = runs c.traces u v e h.runs;
      sources_for_each = h.sources_for_each;
      sources = h.sources;
      locations = h.locations;
      orders = h.orders;
    }

too_many : Keeps HasTooMany
too_many u v e (inl h) =
    inl (more most_candidates (AreRunsOverValues u) (AreRunsOverValues (with_condition_of v u)) (λ traces. runs traces u v e) h)
too_many u v e (inr h) = inr (more most_candidates (IsRaw u) (IsRaw (with_condition_of v u)) (λ c. raw c u v e) h)

candidate_fault : (f : Fault) → Keeps (λ t. IsCandidateFault t f)
candidate_fault fault.TooManyCandidates u v e h =
    (λ f x. h.0 f (back (λ t. IsRunFault t f) (run_fault f) u v e x), too_many u v e h.1)
candidate_fault f u v e h = run_fault f u v e h

cycles_fault : (cycles : Cycles) (f : Fault) → Keeps (λ t. IsCyclesFault cycles t f)
cycles_fault (Listed cycles) f = candidate_fault f
cycles_fault (Inferred inferences) f = run_fault f

pub showing : (c : Candidate) → Keeps (λ t. IsShowing t c)
showing c u v e h =
    record {
      raw = raw c u v e h.raw;
      outcome =
          ap (λ condition. is_outcome u.quantifier (holds (final_register u c.traces) (last_word u c) condition)) e
          ∙ h.outcome;
      own = h.own;
      latest = h.latest;
      atomic = h.atomic;
    }

pub listing : (cs : List Candidate) → Keeps (λ t. IsListing t cs)
listing cs u v e h =
    record {
      rising = h.rising;
      exact =
          λ c. (
            λ listed. showing c u v e ((h.exact c).0 listed),
            λ shows. (h.exact c).1 (back (λ t. IsShowing t c) (showing c) u v e shows),
          );
    }

pub too_many_same : (t u : Test) → IsSame t u → HasTooMany t ↔ HasTooMany u
too_many_same = carried HasTooMany too_many

pub candidate_fault_same : (t u : Test) → IsSame t u → (f : Fault) → IsCandidateFault t f ↔ IsCandidateFault u f
candidate_fault_same t u s f = carried (λ x. IsCandidateFault x f) (candidate_fault f) t u s

pub cycles_fault_same :
    (cycles : Cycles) (t u : Test) → IsSame t u → (f : Fault) → IsCyclesFault cycles t f ↔ IsCyclesFault cycles u f
cycles_fault_same cycles t u s f = carried (λ x. IsCyclesFault cycles x f) (cycles_fault cycles f) t u s

pub showing_same : (t u : Test) → IsSame t u → (c : Candidate) → IsShowing t c ↔ IsShowing u c
showing_same t u s c = carried (λ x. IsShowing x c) (showing c) t u s

pub listing_same : (t u : Test) → IsSame t u → (cs : List Candidate) → IsListing t cs ↔ IsListing u cs
listing_same t u s cs = carried (λ x. IsListing x cs) (listing cs) t u s
