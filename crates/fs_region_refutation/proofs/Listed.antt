-- The runs of each hart, made ready in their order.
use Rattle.std.proofs.Common.{◌≡◌, ℕ, ◌+◌, ◌<◌, List, [], ◌∷◌, ◌++◌, map, length, get_or, All, inl, inr, refl, sym, ◌∙◌, ap, subst, arith}
use Rattle.std.specs.List.{slice_index_or}
use Rattle.std.proofs.lemmas.Bool.{cases_lt}
use Rattle.std.proofs.lemmas.List.{get_or_append_left, get_or_past, get_or_push}
use Rattle.std.proofs.lemmas.List.Elements.{All-nil, All-from_get_or, All-get_or, All-map, Contains-get_or}
use Rattle.fs_kinds.specs.declared.reason.OperationName.{OperationName as Name}
use Rattle.fs_model.specs.declared.test.Test.{Test}
use Rattle.fs_model.specs.Test.{IsBounded}
use Rattle.fs_model.specs.Values.{AreAllRuns, HasAllRuns}
use Rattle.fs_hart.specs.declared.trace.Trace.{Trace}
use Rattle.fs_hart.specs.Runs.{registers_after}
use Rattle.fs_hart.specs.Steps.{steps_in}
use Rattle.fs_values.specs.AllRuns.{HaveFinal, runs_in}
use Rattle.fs_values.proofs.Contained.{in_map}
use Rattle.fs_cert_evidence.specs.Regions.{names}
use Rattle.fs_cert_evidence.specs.Trees.{AreItsRuns}
use Rattle.fs_region_refutation.specs.Alone.{RunOf, IsRun}
use Rattle.fs_region_refutation.specs.Runs.{runs_over, lone_of, AreOfHart, AreOfEach, AreRunsOfEach, AreReady, IsBasis}
use Rattle.fs_region_refutation.proofs.Lists.{map_seen}

abbrev none : Trace
none = record { steps = []; registers = [] }

module _ (t : Test) (lists : List (List Trace)) where
  -- the first harts' runs are ready
  abbrev pub AreReadyBelow : ℕ → List (List RunOf) → Type 0
  AreReadyBelow n runs =
      (hart : ℕ) → hart < n → slice_index_or runs hart [] ≡ map (lone_of t hart) (slice_index_or lists hart [])

  pub ready_more : (runs : List (List RunOf)) (new : List RunOf) (n : ℕ) → length runs ≡ n → AreReadyBelow n runs
      → new ≡ map (lone_of t n) (slice_index_or lists n []) → AreReadyBelow (n + 1) (runs ++ new ∷ [])
  ready_more runs new n long below is hart low = elim (cases_lt hart n) [
    | inl earlier ↦ get_or_append_left runs (new ∷ []) [] hart (omega (arith, earlier, long)) ∙ below hart earlier
    | inr later ↦ subst (λ h. slice_index_or (runs ++ new ∷ []) h [] ≡ map (lone_of t h) (slice_index_or lists h []))
        (let same : n ≡ hart = omega (arith, low, later) in same) (get_or_push runs new [] n long ∙ is)
  ]

  pub ready_all : (runs : List (List RunOf)) (n : ℕ) → length runs ≡ n → length lists ≡ n → AreReadyBelow n runs
      → AreReady t lists runs
  ready_all runs n long same below hart = elim (cases_lt hart n) [
    | inl low ↦ below hart low
    | inr high ↦
        get_or_past runs hart [] (omega (arith, high, long))
        ∙ ap (map (lone_of t hart)) (sym (get_or_past lists hart [] (omega (arith, high, same))))
  ]

  -- ---- all runs

  abbrev HasFinal : ℕ → Trace → Type 0
  HasFinal hart trace = trace.registers ≡ registers_after t hart trace.steps

  module _ (harts : length lists ≡ length t.codes) (all : HasAllRuns t (runs_in lists)) where
    -- each is a whole run
    pub are_runs : HaveFinal t lists → AreRunsOfEach t lists
    are_runs final hart = elim (cases_lt hart (length lists)) [
      | inl low ↦
          let here = slice_index_or lists hart [] in
          let are : AreAllRuns t hart (steps_in here) = all hart (omega (arith, low, harts)) in
          All-from_get_or (IsRun t hart) here none (λ i inside.
          let trace = get_or here i none in
          let listed = in_map (λ (x : Trace). x.steps) here trace (Contains-get_or here i none inside) in
          record {
            low = omega (arith, low, harts);
            steps = ((are.exact trace.steps).0 listed).0;
            registers = All-get_or (HasFinal hart) here i none inside (final hart low);
          })
      | inr high ↦ subst (All (IsRun t hart)) (sym (get_or_past lists hart [] high)) (All-nil (IsRun t hart))
    ]

    -- their steps are those of the lists
    steps_of_ready : (runs : List (List RunOf)) → AreReady t lists runs
        → (hart : ℕ) → runs_over runs hart ≡ runs_in lists hart
    steps_of_ready runs ready hart =
        ap (map (λ (run : RunOf). run.steps)) (ready hart)
        ∙ map_seen (lone_of t hart) (λ run. run.steps) (slice_index_or lists hart [])

    pub are_its_runs : (runs : List (List RunOf)) → AreReady t lists runs → AreItsRuns t (runs_over runs)
    are_its_runs runs ready = record {
      all = λ hart low. subst (AreAllRuns t hart) (sym (steps_of_ready runs ready hart)) (all hart low);
      others = λ hart high.
          steps_of_ready runs ready hart ∙ ap steps_in (get_or_past lists hart [] (omega (arith, high, harts)));
    }

  pub are_of_each : (runs : List (List RunOf)) → AreReady t lists runs → AreOfEach t runs
  are_of_each runs ready hart =
      subst (AreOfHart t hart) (sym (ready hart))
      (All-map (λ run. (run.test ≡ t) × (run.hart ≡ hart)) (lone_of t hart) (slice_index_or lists hart [])
      (λ k d low. (refl, refl)))

pub is_basis : (t : Test) (lists : List (List Trace)) (runs : List (List RunOf)) (named : List Name) → IsBounded t
    → length lists ≡ length t.codes → HasAllRuns t (runs_in lists) → AreReady t lists runs → named ≡ names t
    → IsBasis t runs named
is_basis t lists runs named bounded harts all ready are = record {
  bounded = bounded;
  all = are_its_runs t lists harts all runs ready;
  of = are_of_each t lists runs ready;
  names = are;
}
