-- What the runs of one hart give, and those of the first harts.
use Rattle.std.proofs.Common.{◌≡◌, ◌≢◌, ℕ, zero, suc, ◌+◌, ◌<◌, None, Some, List, [], ◌∷◌, ◌++◌, map, length, refl, ap, subst, sym, ◌∙◌, inl, inr, arith}
use Rattle.std.specs.List.{Contains, slice_index_or}
use Rattle.std.proofs.lemmas.Bool.{cases_lt}
use Rattle.std.proofs.lemmas.List.{get_or-map, length-map}
use Rattle.std.proofs.lemmas.List.Elements.{All-contains, Contains-append_left, Contains-append_right, Contains-append_cases}
use Rattle.fs_kinds.specs.declared.fault.Fault.{Fault}
use Rattle.fs_kinds.specs.declared.fault.Fault.TheVariants as fault
use Rattle.fs_model.specs.declared.test.Test.{Test}
use Rattle.fs_model.specs.Test.{address_of}
use Rattle.fs_model.specs.declared.step.Step.{Step}
use Rattle.fs_model.specs.declared.step.Choice.{Choice}
use Rattle.fs_model.specs.Execution.{IsTrace}
use Rattle.fs_model.specs.Values.{LoadsFrom, StoresWord}
use Rattle.fs_model.specs.TooMany.{EndsAstray, IsHartFault}
use Rattle.fs_hart.specs.declared.trace.Trace.{Trace}
use Rattle.fs_hart.specs.Listing.{End, EndsSo, IsEnd, IsOffered, AreTraces, IsTraceFault, trace_at}
use Rattle.fs_hart.specs.inner.Walking.{IsOf}
use Rattle.fs_hart.proofs.HartFaults.{no_more_lists}
use Rattle.fs_values.specs.declared.stores.Store.{Store}
use Rattle.fs_values.specs.inner.Stores.{stores_of, stores_in, HasStore, IsStoredBelow, AreStoresBelow}
use Rattle.fs_values.proofs.Contained.{none_in, in_part, in_parts}
use Rattle.fs_values.proofs.Stored.{store, stores_word, word_stored}

is_of : (ends : List End) (e : End) → Contains ends e → IsOf ends e
is_of [] e has = absurd (none_in e has)
is_of (x ∷ xs) e (zero, low, same) = inl (sym same)
is_of (x ∷ xs) e (suc k, low, same) = inr (is_of xs e (k, omega (arith, low), same))

module _ (t : Test) (sets : List (List ℕ)) (hart : ℕ) where
  abbrev V : ℕ → ℕ → Type 0
  V = IsOffered sets

  -- a run over the sets
  abbrev pub IsRun : List Step → Type 0
  IsRun steps = IsTrace t hart steps × LoadsFrom V steps

  module _ (traces : List Trace) (listed : AreTraces t hart sets traces) where
    end_run : (e : End) → IsEnd t hart sets e → e.astray ≡ None → IsRun e.steps
    end_run e is none =
        let so : EndsSo t hart _ e.steps None = subst (EndsSo t hart _ e.steps) none is.ends in
        (so.0, is.offered)

    pub is_run : (x : Trace) → Contains traces x → IsRun x.steps
    is_run x has =
        let k = has.0 in
        let none : End = record { steps = []; astray = None } in
        let inside : k < length listed.ends = omega (arith, has.1, ap length listed.runs, length-map listed.ends (trace_at t hart)) in
        let e = slice_index_or listed.ends k none in
        let same : trace_at t hart e ≡ x =
        sym (get_or-map (trace_at t hart) listed.ends k none x inside) ∙ ap (λ xs. slice_index_or xs k x) (sym listed.runs) ∙ has.2 in
        subst IsRun (ap (λ (trace : Trace). trace.steps) same) (end_run e (listed.listing.different.each k none inside) (listed.whole k none inside))

    pub is_listed : (steps : List Step) → IsRun steps → (x : Trace) × Contains traces x × (x.steps ≡ steps)
    is_listed steps run =
        let e : End = record { steps = steps; astray = None } in
        let has = listed.listing.all e (record { ends = (run.0, refl); offered = run.1 }) in
        let k = has.0 in
        let x = trace_at t hart e in
        let here : slice_index_or (map (trace_at t hart) listed.ends) k x ≡ x =
        get_or-map (trace_at t hart) listed.ends k e x has.1 ∙ ap (trace_at t hart) has.2 in
        (x, subst (λ xs. Contains xs x) (sym listed.runs) (k, omega (arith, has.1, length-map listed.ends (trace_at t hart)), here), refl)

    -- what its runs store
    pub stored : (k word : ℕ) → HasStore (stores_in traces) k word → (steps : List Step) × IsTrace t hart steps × LoadsFrom V steps × StoresWord steps k word
    stored k word has =
        let part = in_part (λ (trace : Trace). stores_of trace.steps) traces (store (address_of k) word) has in
        let run = is_run part.0 part.1 in
        (part.0.steps, run.0, run.1, stores_word part.0.steps k word part.2)

    pub is_stored : (k word : ℕ) (steps : List Step) → IsTrace t hart steps → LoadsFrom V steps → StoresWord steps k word → HasStore (stores_in traces) k word
    is_stored k word steps run loads stores =
        let x = is_listed steps (run, loads) in
        in_parts (λ (trace : Trace). stores_of trace.steps) traces x.0 (store (address_of k) word) x.1
        (subst (λ (ss : List Step). HasStore (stores_of ss) k word) (sym x.2) (word_stored steps k word stores))

    none_astray : (choices : List Choice) (at : ℕ) → EndsAstray t V hart choices at → ⊥
    none_astray choices at a =
        let e : End = record { steps = a.steps; astray = Some at } in
        let is : IsEnd t hart sets e = record { ends = subst (λ cs. EndsSo t hart cs a.steps (Some at)) a.all_taken a.astray; offered = a.loads } in
        let none : Some at ≡ None = All-contains (λ (d : End). d.astray ≡ None) listed.ends e listed.whole (listed.listing.all e is) in
        absurd cc

    -- they are few, and none goes astray
    pub no_fault : (f : Fault) → IsHartFault t V hart f → ⊥
    no_fault fault.TooManyTraces many =
        no_more_lists t hart sets listed.ends (λ e is. is_of listed.ends e (listed.listing.all e is)) listed.few many
    no_fault (fault.Astray h at) astray = let first = astray.2 in none_astray first.0 at first.1
    no_fault other none = none

  -- why there are no traces, but for want of memory
  pub real_fault : (f : Fault) → IsTraceFault t hart sets f → f ≢ fault.Memory → IsHartFault t V hart f
  real_fault fault.Memory is differs = absurd (differs refl)
  real_fault other is differs = is

-- ---- the first harts

module _ (t : Test) (V : ℕ → ℕ → Type 0) where
  pub no_hart : AreStoresBelow t V 0 []
  no_hart k word = ((λ has. absurd (none_in (store (address_of k) word) has)), (λ below. let low = below.2 in absurd (omega (arith, low))))

  pub one_hart_more : (n : ℕ) (old new : List Store) (traces : List Trace) → AreStoresBelow t V n old → new ≡ old ++ stores_in traces
      → ((k word : ℕ) → HasStore (stores_in traces) k word → (steps : List Step) × IsTrace t n steps × LoadsFrom V steps × StoresWord steps k word)
      → ((k word : ℕ) (steps : List Step) → IsTrace t n steps → LoadsFrom V steps → StoresWord steps k word → HasStore (stores_in traces) k word)
      → AreStoresBelow t V (n + 1) new
  one_hart_more n old new traces before more forth back k word = (
    (λ has. elim (Contains-append_cases old (stores_in traces) (store (address_of k) word) (subst (λ xs. HasStore xs k word) more has)) [
      | inl earlier ↦ (
          let b = (before k word).0 earlier in
          let low = b.2 in
          (b.0, b.1, omega (arith, low), b.3, b.4, b.5))
      | inr here ↦ (let r = forth k word here in (n, r.0, omega arith, r.1, r.2, r.3))
    ]),
    (λ below. subst (λ xs. HasStore xs k word) (sym more) (there below)),
  )
    where
      at : (hart : ℕ) (steps : List Step) → hart ≡ n → IsTrace t hart steps → LoadsFrom V steps → StoresWord steps k word → HasStore (old ++ stores_in traces) k word
      at hart steps e run loads stores =
          Contains-append_right old (stores_in traces) (store (address_of k) word) (back k word steps (subst (λ h. IsTrace t h steps) e run) loads stores)

      there : IsStoredBelow t V (n + 1) k word → HasStore (old ++ stores_in traces) k word
      there (hart, steps, low, run, loads, stores) = elim (cases_lt hart n) [
        | inl less ↦ Contains-append_left old (stores_in traces) (store (address_of k) word) ((before k word).1 (hart, steps, less, run, loads, stores))
        | inr not_less ↦ at hart steps (omega (arith, low, not_less)) run loads stores
      ]

  pub one_hart_clean : (n : ℕ) → ((h : ℕ) (f : Fault) → h < n → IsHartFault t V h f → ⊥) → ((f : Fault) → IsHartFault t V n f → ⊥)
      → (h : ℕ) (f : Fault) → h < n + 1 → IsHartFault t V h f → ⊥
  one_hart_clean n before here h f low met = elim (cases_lt h n) [
    | inl less ↦ before h f less met
    | inr not_less ↦ (let e : h ≡ n = omega (arith, low, not_less) in here f (subst (λ g. IsHartFault t V g f) e met))
  ]
