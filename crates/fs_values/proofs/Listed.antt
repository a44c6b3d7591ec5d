-- The runs of all harts, from what the listing of each gives.
use Rattle.std.proofs.Common.{◌≡◌, ◌∙◌, ℕ, ◌+◌, ◌-◌, ◌<◌, ◌≤◌, List, [], ◌∷◌, ◌++◌, None, map, length, get_or, All, refl, sym, ap, subst, inl, inr, arith, Fits, w8, Result, Ok, Err}
use Rattle.std.specs.Prelude.{IsOkUnless}
use Rattle.std.specs.List.{AllPairs, Contains, slice_index_or}
use Rattle.std.specs.Result.{IsErrAnd}
use Rattle.std.proofs.lemmas.Bool.{cases_lt}
use Rattle.std.proofs.lemmas.List.{get_or-map, get_or_append_left, length-append, length-map}
use Rattle.std.proofs.Math.Seq.{get_or-append_seam}
use Rattle.std.proofs.lemmas.List.Elements.{All-map, All-weaker}
use Rattle.fs_kinds.specs.declared.fault.Fault.{Fault}
use Rattle.fs_kinds.specs.declared.fault.Fault.TheVariants as fault
use Rattle.fs_model.specs.declared.test.Test.{Test}
use Rattle.fs_model.specs.declared.step.Step.{Step}
use Rattle.fs_model.specs.Choices.{choices_of, ComesBefore}
use Rattle.fs_model.specs.Execution.{IsTrace}
use Rattle.fs_model.specs.TooMany.{IsHartFault}
use Rattle.fs_model.specs.Values.{IsValue, LoadsFrom, LoadsOne}
use Rattle.fs_hart.specs.declared.trace.Trace.{Trace}
use Rattle.fs_hart.specs.Listing.{End, IsOffered, IsTraceFault, AreTraces, trace_at}
use Rattle.fs_hart.specs.Runs.{registers_after}
use Rattle.fs_hart.specs.Steps.{steps_in}
use Rattle.fs_values.specs.Sets.{AreValues}
use Rattle.fs_values.specs.Rounds.{HasNoFault}
use Rattle.fs_values.specs.AllRuns.{AreListed, HaveFinal, runs_in}
use Rattle.fs_model.specs.Values.{HasAllRuns}
use Rattle.fs_values.proofs.Contained.{in_map, from_map}
use Rattle.fs_values.proofs.Hart.{is_run, is_listed}

-- ---- over the value sets

module _ (t : Test) (sets : List (List ℕ)) (values : AreValues t sets) where
  loads_offered : (steps : List Step) → LoadsFrom (IsValue t) steps → LoadsFrom (IsOffered sets) steps
  loads_offered steps h =
      All-weaker (LoadsOne (IsValue t)) (LoadsOne (IsOffered sets)) (λ s l k word at loaded. (values.words k word).1 (l k word at loaded)) steps h

  offered_loads : (steps : List Step) → LoadsFrom (IsOffered sets) steps → LoadsFrom (IsValue t) steps
  offered_loads steps h =
      All-weaker (LoadsOne (IsOffered sets)) (LoadsOne (IsValue t)) (λ s l k word at loaded. (values.words k word).0 (l k word at loaded)) steps h

  module _ (hart : ℕ) (traces : List Trace) (listed : AreTraces t hart sets traces) where
    listed_run : (steps : List Step) → Contains (steps_in traces) steps → IsTrace t hart steps × LoadsFrom (IsValue t) steps
    listed_run steps has =
        let from = from_map (λ (x : Trace). x.steps) traces steps has in
        let run = is_run t sets hart traces listed from.0 from.1 in
        subst (λ ss. IsTrace t hart ss × LoadsFrom (IsValue t) ss) from.2 (run.0, offered_loads from.0.steps run.1)

    run_listed : (steps : List Step) → IsTrace t hart steps × LoadsFrom (IsValue t) steps → Contains (steps_in traces) steps
    run_listed steps run =
        let x = is_listed t sets hart traces listed steps (run.0, loads_offered steps run.1) in
        subst (Contains (steps_in traces)) x.2 (in_map (λ (y : Trace). y.steps) traces x.0 x.1)

    map_same : (ends : List End) → steps_in (map (trace_at t hart) ends) ≡ map (λ e. e.steps) ends
    map_same [] = refl
    map_same (e ∷ es) = ap (λ ss. e.steps ∷ ss) (map_same es)

    abbrev Precedes : List Step → List Step → Type 0
    Precedes a b = ComesBefore (choices_of a) (choices_of b)

    rise : AllPairs Precedes (steps_in traces)
    rise =
        let same : steps_in traces ≡ map (λ e. e.steps) listed.ends = ap steps_in listed.runs ∙ map_same listed.ends in
        subst (AllPairs Precedes) (sym same) (λ i j d below within.
        let end : End = record { steps = d; astray = None } in
        let long = length-map listed.ends (λ (e : End). e.steps) in
        let later : j < length listed.ends = omega (arith, within, long) in
        let earlier : i < length listed.ends = omega (arith, below, later) in
        let first = get_or-map (λ (e : End). e.steps) listed.ends i end d earlier in
        let second = get_or-map (λ (e : End). e.steps) listed.ends j end d later in
        subst (λ b. Precedes (get_or (map (λ (e : End). e.steps) listed.ends) i d) b) (sym second)
        (subst (λ a. Precedes a (get_or listed.ends j end).steps) (sym first)
        (listed.listing.different.rising i j end below later)))

  pub has_all : (lists : List (List Trace)) → length lists ≡ length t.codes → AreListed t sets lists → HasAllRuns t (runs_in lists)
  has_all lists long listed hart low =
      let traces = listed hart (omega (arith, low, long)) in
      let here = slice_index_or lists hart [] in
      record {
        rising = rise hart here traces;
        exact = λ steps. (listed_run hart here traces steps, run_listed hart here traces steps);
      }

-- ---- one hart more

pub one_longer : (lists new : List (List Trace)) (traces : List Trace) (n : ℕ) → new ≡ lists ++ traces ∷ [] → length lists ≡ n → length new ≡ n + 1
one_longer lists new traces n more long = (let a = ap length more in let b = length-append lists (traces ∷ []) in omega arith)

pub listed_more : (t : Test) (sets : List (List ℕ)) (lists new : List (List Trace)) (traces : List Trace) (n : ℕ) → new ≡ lists ++ traces ∷ [] → length lists ≡ n
    → AreListed t sets lists → AreTraces t n sets traces → AreListed t sets new
listed_more t sets lists new traces n more long listed here hart low =
    subst (λ xs. AreTraces t hart sets (slice_index_or xs hart [])) (sym more) (elim (cases_lt hart (length lists)) [
      | inl less ↦ subst (AreTraces t hart sets) (sym (get_or_append_left lists (traces ∷ []) [] hart less)) (listed hart less)
      | inr not_less ↦ (
          let size = one_longer lists new traces n more long in
          let last : length lists ≡ hart = omega (arith, low, not_less, size, long) in
          subst (λ h. AreTraces t h sets (slice_index_or (lists ++ traces ∷ []) h [])) last
          (subst (AreTraces t (length lists) sets) (sym (get_or-append_seam lists traces [] [])) (subst (λ h. AreTraces t h sets traces) (sym long) here)))
    ])

-- ---- registers

pub have_final : (t : Test) (sets : List (List ℕ)) (lists : List (List Trace)) → AreListed t sets lists → HaveFinal t lists
have_final t sets lists listed hart low =
    let traces = listed hart low in
    subst (All (λ trace. trace.registers ≡ registers_after t hart trace.steps)) (sym traces.runs)
    (All-map (λ (trace : Trace). trace.registers ≡ registers_after t hart trace.steps) (trace_at t hart) traces.ends (λ k d inside. refl))

-- ---- faults

only_memory : (t : Test) (sets : List (List ℕ)) (hart : ℕ) (f : Fault) → IsTraceFault t hart sets f → (IsHartFault t (IsOffered sets) hart f → ⊥)
    → f ≡ fault.Memory
only_memory t sets hart fault.Memory h none = refl
only_memory t sets hart fault.BadUtf8 h none = absurd (none h)
only_memory t sets hart fault.TooManyTraces h none = absurd (none h)
only_memory t sets hart (fault.Astray g at) h none = absurd (none h)
only_memory t sets hart _ h none = absurd (none h)

pub no_fault_but_memory : {T : Type 0} (t : Test) (sets : List (List ℕ)) (hart : ℕ) (f : Fault) (r : Result T Fault)
    → IsErrAnd r (λ g. g ≡ f) → HasNoFault t (IsOffered sets) → hart < length t.codes → IsTraceFault t hart sets f → IsOkUnless r fault.Memory
no_fault_but_memory t sets hart f (Ok x) h clean low is = tt
no_fault_but_memory t sets hart f (Err g) h clean low is = h ∙ only_memory t sets hart f is (clean hart f low)

-- ---- over plain numbers, so that nothing else is read

pub hart_fits : (hart n m : ℕ) → hart < n → n ≡ m → m ≤ 8 → Fits w8 hart
hart_fits hart n m low is few = omega arith

pub below_same : (a n m : ℕ) → a < n → n ≡ m → a < m
below_same a n m low is = omega arith

pub nearer : (n i : ℕ) → i < n → n - (i + 1) < n - i
nearer n i low = omega arith
