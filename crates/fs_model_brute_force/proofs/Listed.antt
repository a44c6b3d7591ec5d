-- The runs of all harts, and what is chosen of them.
use Rattle.std.proofs.Common.{◌≡◌, ℕ, zero, suc, ◌+◌, ◌<◌, inr, Result, Ok, Err, IfErr, None, Some, List, []}
use Rattle.std.proofs.Common.{◌∷◌, map, length, refl, sym, ap, subst, ◌∙◌, arith}
use Rattle.std.specs.Prelude.{option_map, slice_get}
use Rattle.std.specs.Result.{IsErrAnd}
use Rattle.std.specs.List.{Contains, slice_index_or}
use Rattle.std.proofs.lemmas.List.{get_or-map, length-map}
use Rattle.std.proofs.lemmas.Option.{slice_get-map, get_or_from_slice_get}
use Rattle.std.proofs.lemmas.Slice.Zip.{AllZip-long}
use Rattle.fs_kinds.specs.declared.fault.Fault.{Fault}
use Rattle.fs_kinds.specs.declared.placement.Entry.{Entry}
use Rattle.fs_model.specs.declared.test.Test.{Test}
use Rattle.fs_model.specs.Test.{IsBounded}
use Rattle.fs_model.specs.declared.step.Step.{Step}
use Rattle.fs_model.specs.Choices.{choices_of}
use Rattle.fs_model.specs.Operations.{steps_of}
use Rattle.fs_model.specs.Execution.{IsTrace}
use Rattle.fs_model.specs.Values.{LoadsFrom}
use Rattle.fs_hart.specs.declared.trace.Trace.{Trace}
use Rattle.fs_hart.specs.Listing.{End, EndsSo, IsEnd, IsOffered, IsTraceFault, AreTraces, trace_at}
use Rattle.fs_hart.specs.Runs.{registers_after}
use Rattle.fs_hart.specs.Steps.{steps_in}
use Rattle.fs_model_brute_force.specs.Decisions.{ShowsOutcome}
use Rattle.fs_model_brute_force.specs.Allowing.{AllowsOver, AreChosen, AreListed, AreWhole, IsListingFault, LoadsOver, ShowsAmong}
use Rattle.fs_model_brute_force.specs.Allowing.{execution_of}

pub handed : {T : Type 0} (r : Result T Fault) (fault : Fault) (P : Fault → Type 0)
    → IsErrAnd r (λ f. f ≡ fault) → P fault → IfErr r P
handed (Ok x) fault P h p = tt
handed (Err f) fault P h p = subst P (sym h) p

pub first_fault : (t : Test) (sets : List (List ℕ)) (lists : List (List Trace)) (hart : ℕ) (fault : Fault)
    → length lists ≡ hart → AreListed t sets lists → hart < length t.codes → IsTraceFault t hart sets fault
    → IsListingFault t sets fault
first_fault t sets lists hart fault long listed there here =
    inr (record {
      lists = lists;
      before = listed;
      hart = omega (arith, long, there);
      here = subst (λ h. IsTraceFault t h sets fault) (sym long) here;
    })

-- ---- the runs of one hart

abbrev whole_end : List Step → End
whole_end steps = record { steps = steps; astray = None }

-- a listed run is one of the hart, with its registers, and its loads take words of the sets
record IsRun (t : Test) (sets : List (List ℕ)) (hart : ℕ) (trace : Trace) : Type 0 where
  pub run : IsTrace t hart trace.steps
  pub registers : trace.registers ≡ registers_after t hart trace.steps
  pub loads : LoadsFrom (IsOffered sets) trace.steps

module _ (t : Test) (sets : List (List ℕ)) (hart : ℕ) where
  end_run : (e : End) → IsEnd t hart sets e → e.astray ≡ None → IsRun t sets hart (trace_at t hart e)
  end_run e is none =
      let choices = choices_of e.steps in
      let so : EndsSo t hart choices e.steps None = subst (EndsSo t hart choices e.steps) none is.ends in
      record { run = so.0; registers = refl; loads = is.offered }

  is_run : (list : List Trace) (x : Trace) → AreTraces t hart sets list → Contains list x → IsRun t sets hart x
  is_run list x listed has =
      let k = has.0 in
      let none = whole_end [] in
      let inside : k < length listed.ends = omega (arith, has.1, ap length listed.runs, length-map listed.ends (trace_at t hart)) in
      let e = slice_index_or listed.ends k none in
      let same : trace_at t hart e ≡ x =
      sym (get_or-map (trace_at t hart) listed.ends k none x inside) ∙ ap (λ xs. slice_index_or xs k x) (sym listed.runs) ∙ has.2 in
      subst (IsRun t sets hart) same (end_run e (listed.listing.different.each k none inside) (listed.whole k none inside))

  is_listed : (list : List Trace) (steps : List Step) → AreTraces t hart sets list → IsTrace t hart steps
      → LoadsFrom (IsOffered sets) steps → Contains list (trace_at t hart (whole_end steps))
  is_listed list steps listed run loads =
      let e = whole_end steps in
      let has = listed.listing.all e (record { ends = (run, refl); offered = loads }) in
      let k = has.0 in
      let here : slice_index_or (map (trace_at t hart) listed.ends) k (trace_at t hart e) ≡ trace_at t hart e =
      get_or-map (trace_at t hart) listed.ends k e (trace_at t hart e) has.1 ∙ ap (trace_at t hart) has.2 in
      subst (λ xs. Contains xs (trace_at t hart e)) (sym listed.runs)
      (k, omega (arith, has.1, length-map listed.ends (trace_at t hart)), here)

-- ---- one run of each hart

record IsAt (lists : List (List Trace)) (chosen : List Trace) (k : ℕ) : Type 0 where
  pub trace : Trace
  pub here : slice_get chosen k ≡ Some trace
  pub has : Contains (slice_index_or lists k []) trace

chosen_at : (lists : List (List Trace)) (chosen : List Trace) (k : ℕ) → AreChosen lists chosen → k < length lists
    → IsAt lists chosen k
chosen_at [] chosen k are low = absurd (omega (arith, low))
chosen_at (list ∷ lists) [] k are low = absurd are
chosen_at (list ∷ lists) (x ∷ xs) zero are low = record { trace = x; here = refl; has = are.0 }
chosen_at (list ∷ lists) (x ∷ xs) (suc k) are low =
    let rest = chosen_at lists xs k are.1 (omega (arith, low)) in
    record { trace = rest.trace; here = rest.here; has = rest.has }

module _ (t : Test) (sets : List (List ℕ)) (lists : List (List Trace)) (bounded : IsBounded t) (harts : length lists ≡ length t.codes)
    (listed : AreListed t sets lists) where
  module _ (chosen : List Trace) (are : AreChosen lists chosen) (hart : ℕ) (low : hart < length t.codes) where
    inside : hart < length lists
    inside = omega (arith, low, harts)

    at : IsAt lists chosen hart
    at = chosen_at lists chosen hart are inside

    run : IsRun t sets hart at.trace
    run = is_run t sets hart (slice_index_or lists hart []) at.trace (listed hart inside) at.has

    steps_here : steps_of (steps_in chosen) hart ≡ at.trace.steps
    steps_here = get_or_from_slice_get (steps_in chosen) hart at.trace.steps []
        (slice_get-map (λ trace. trace.steps) chosen hart ∙ ap (option_map (λ trace. trace.steps)) at.here)

    registers_here :
        slice_index_or (map (λ trace. trace.registers) chosen) hart []
        ≡ registers_after t hart (steps_of (steps_in chosen) hart)
    registers_here =
        get_or_from_slice_get (map (λ trace. trace.registers) chosen) hart at.trace.registers []
        (slice_get-map (λ trace. trace.registers) chosen hart ∙ ap (option_map (λ trace. trace.registers)) at.here)
        ∙ run.registers ∙ ap (registers_after t hart) (sym steps_here)

  -- they are whole runs
  pub whole : (chosen : List Trace) → AreChosen lists chosen → AreWhole t chosen
  whole chosen are =
      let long = AllZip-long Contains lists chosen are in
      record {
        runs = λ hart low. subst (IsTrace t hart) (sym (steps_here chosen are hart low)) (run chosen are hart low).run;
        last = record {
          harts = omega (arith, long, harts, bounded.starts);
          registers = λ hart low. registers_here chosen are hart (omega (arith, low, long, harts));
        };
      }

  -- their loads take words of the sets
  loads_over : (chosen : List Trace) (order : List ℕ) → AreChosen lists chosen → LoadsOver t sets (execution_of chosen order)
  loads_over chosen order are hart low =
      subst (LoadsFrom (IsOffered sets)) (sym (steps_here chosen are hart low)) (run chosen are hart low).loads

  -- the runs of an execution
  traced : ℕ → List (List Step) → List Trace
  traced first [] = []
  traced first (steps ∷ runs) = trace_at t first (whole_end steps) ∷ traced (first + 1) runs

  runs_traced : (first : ℕ) (runs : List (List Step)) → steps_in (traced first runs) ≡ runs
  unfolding traced
  runs_traced first [] = refl
  runs_traced first (steps ∷ runs) = ap (λ rs. steps ∷ rs) (runs_traced (first + 1) runs)

  are_traced : (first : ℕ) (from : List (List Trace)) (runs : List (List Step)) → length runs ≡ length from
      → ((k : ℕ) → k < length from → Contains (slice_index_or from k []) (trace_at t (first + k) (whole_end (slice_index_or runs k []))))
      → AreChosen from (traced first runs)
  unfolding traced
  are_traced first [] [] same each = tt
  are_traced first [] (steps ∷ runs) same each = absurd (omega (arith, same))
  are_traced first (list ∷ from) [] same each = absurd (omega (arith, same))
  are_traced first (list ∷ from) (steps ∷ runs) same each =
      let here : first + 0 ≡ first = omega arith in (
        subst (λ n. Contains list (trace_at t n (whole_end steps))) here (each 0 (omega arith)),
        are_traced (first + 1) from runs (omega (arith, same)) (λ k low.
            let next : first + suc k ≡ first + 1 + k = omega arith in
            subst (λ n. Contains (slice_index_or from k []) (trace_at t n (whole_end (slice_index_or runs k [])))) next (each (suc k) (omega (arith, low)))),
      )

  module _ (p : List Entry) where
    pub allows : ShowsAmong t p lists [] → AllowsOver t p sets
    allows (chosen, are, (order, shown)) = (execution_of chosen order, shown.0, loads_over chosen order are, shown.1)

    pub allowed : AllowsOver t p sets → ShowsAmong t p lists []
    allowed (e, execution, loads, outcome) =
        let are : AreChosen lists (traced 0 e.traces) =
        are_traced 0 lists e.traces (omega (arith, execution.harts, harts)) (λ k low.
        let there : k < length t.codes = omega (arith, low, harts) in
        let zeroth : k ≡ 0 + k = omega arith in
        subst (λ n. Contains (slice_index_or lists k []) (trace_at t n (whole_end (slice_index_or e.traces k [])))) zeroth
        (is_listed t sets k (slice_index_or lists k []) (steps_of e.traces k) (listed k low) (execution.runs k there) (loads k there))) in (
          traced 0 e.traces,
          are,
          (
            e.order,
            subst (λ runs. ShowsOutcome t p (record { traces = runs; order = e.order })) (sym (runs_traced 0 e.traces)) (execution, outcome),
          ),
        )
