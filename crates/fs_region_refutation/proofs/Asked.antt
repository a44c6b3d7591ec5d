-- The runs of a test, of another one with the same program.
use Rattle.std.proofs.Common.{◌≡◌, ℕ, zero, suc, List, [], ◌∷◌, ◌<◌, ◌≤◌, map, length, All, refl, sym, ◌∙◌, ap, subst}
use Rattle.std.specs.List.{slice_index_or}
use Rattle.std.proofs.lemmas.List.Elements.{All-map, All-weaker}
use Rattle.fs_kinds.specs.declared.reason.OperationName.{OperationName as Name}
use Rattle.fs_model.specs.declared.test.Test.{Test}
use Rattle.fs_model.specs.declared.step.Step.{Step}
use Rattle.fs_model.specs.Runs.{Program}
use Rattle.fs_model.specs.OfTests.{program_of}
use Rattle.fs_model.specs.Test.{IsBounded}
use Rattle.fs_model.specs.Values.{AreAllRuns}
use Rattle.fs_cert_evidence.specs.Regions.{names}
use Rattle.fs_region_refutation.specs.Alone.{RunOf}
use Rattle.fs_region_refutation.proofs.Programs.{carried, Keeps}
use Rattle.fs_region_refutation.specs.Runs.{all_asked, asked_of, runs_over, AreOfHart, HasProgramOf, IsBasis}
use Rattle.fs_region_refutation.proofs.Lists.{map_seen}

asked_at : (t : Test) (lists : List (List RunOf)) (hart : ℕ) → slice_index_or (all_asked t lists) hart [] ≡ map (asked_of t) (slice_index_or lists hart [])
asked_at t [] hart = refl
asked_at t (runs ∷ lists) zero = refl
asked_at t (runs ∷ lists) (suc hart) = asked_at t lists hart

-- the steps are the same
same_steps : (t : Test) (lists : List (List RunOf)) (hart : ℕ) → runs_over (all_asked t lists) hart ≡ runs_over lists hart
same_steps t lists hart =
    ap (map (λ (run : RunOf). run.steps)) (asked_at t lists hart)
    ∙ map_seen (asked_of t) (λ run. run.steps) (slice_index_or lists hart [])

all_runs : (hart : ℕ) (runs : List (List Step)) → Keeps (λ t. AreAllRuns t hart runs)
all_runs hart runs t u h = record { rising = h.rising; exact = h.exact }

-- ---- what refutations are over

module _ (t u : Test) (same : program_of t ≡ program_of u) (lists : List (List RunOf)) (named : List Name) (is : IsBasis t lists named) where
  pub has_program : (hart : ℕ) → All (HasProgramOf u) (slice_index_or lists hart [])
  has_program hart =
      All-weaker (λ run. (run.test ≡ t) × (run.hart ≡ hart)) (HasProgramOf u) (λ run own. ap program_of own.0 ∙ same) (slice_index_or lists hart []) (is.of hart)

  own_harts : (hart : ℕ) → AreOfHart u hart (map (asked_of u) (slice_index_or lists hart []))
  own_harts hart =
      All-map (λ run. (run.test ≡ u) × (run.hart ≡ hart)) (asked_of u) (slice_index_or lists hart [])
      (All-weaker (λ run. (run.test ≡ t) × (run.hart ≡ hart)) (λ run. (u ≡ u) × (run.hart ≡ hart)) (λ run own. (refl, own.1))
      (slice_index_or lists hart []) (is.of hart))

  pub still_basis : IsBounded u → IsBasis u (all_asked u lists) named
  still_basis bounded = record {
    bounded = bounded;
    all = record {
      all = λ hart low.
          subst (AreAllRuns u hart) (sym (same_steps u lists hart))
          (carried (λ t. AreAllRuns t hart (runs_over lists hart)) (all_runs hart (runs_over lists hart)) t u same
          (is.all.all hart (subst (λ n. hart < n) (sym (ap (λ (p : Program). length p.codes) same)) low)));
      others = λ hart high. same_steps u lists hart ∙ is.all.others hart (subst (λ n. n ≤ hart) (sym (ap (λ (p : Program). length p.codes) same)) high);
    };
    of = λ hart. subst (AreOfHart u hart) (sym (asked_at u lists hart)) (own_harts hart);
    names = carried (λ t. named ≡ names t) (λ t u h. h) t u same is.names;
  }
