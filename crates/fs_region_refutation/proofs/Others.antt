-- The runs of a candidate in which one hart runs.
use Rattle.std.proofs.Common.{◌≡◌, ℕ, ◌+◌, ◌<◌, ◌≤◌, ◌==◌, inl, inr, Bool, true, false, None, Some, List, [], ◌∷◌, ◌++◌, map, set, length, get_or, refl, sym, ◌∙◌, ap, subst, arith}
use Rattle.std.specs.Prelude.{All, if◌then◌else◌, slice_get}
use Rattle.std.proofs.lemmas.Bool.{cases_eq, cases_lt, eq-eqb, ne_eqb}
use Rattle.std.proofs.lemmas.List.{get_or-map, get_or-set_same, get_or-set_other, get_or_past, length-map, length-set, map-set, map_push}
use Rattle.std.proofs.lemmas.List.FromFn.{fill_by_all, get_or-map-range_with_len, length-map-range_with_len, map-range_with_len_more}
use Rattle.std.proofs.lemmas.Option.{slice_get-get_or}
use Rattle.fs_kinds.specs.declared.reason.OperationName.{OperationName as Name}
use Rattle.fs_model.specs.declared.step.Step.{Step}
use Rattle.fs_model.specs.declared.test.Test.{Test}
use Rattle.fs_model.specs.Numbers.{numbers_below}
use Rattle.fs_model.specs.Operations.{operation, steps_of}
use Rattle.fs_hart.specs.declared.trace.Trace.{Trace}
use Rattle.fs_hart.specs.Steps.{steps_in}
use Rattle.fs_cand.proofs.Distinct.{named}
use Rattle.fs_cert_evidence.specs.Musts.{alone, number_of, traces_of}
use Rattle.fs_verdict_laws.proofs.Alone.{number_named}

abbrev pub nothing_run : ℕ → List Step
nothing_run h = []

-- ---- how they are made

pub idle_more : (traces : List Trace) (t : Trace) (n : ℕ) → t.steps ≡ [] → steps_in traces ≡ map nothing_run (numbers_below n)
    → steps_in (traces ++ t ∷ []) ≡ map nothing_run (numbers_below (n + 1))
idle_more traces t n none e =
    map_push (λ (trace : Trace). trace.steps) traces t
    ∙ ap (λ (runs : List (List Step)). runs ++ t.steps ∷ []) e
    ∙ ap (λ (run : List Step). map nothing_run (numbers_below n) ++ run ∷ []) none
    ∙ sym (map-range_with_len_more nothing_run 0 n n (omega arith))

pub idle_long : (traces : List Trace) (n : ℕ) → steps_in traces ≡ map nothing_run (numbers_below n) → length traces ≡ n
idle_long traces n e =
    sym (length-map traces (λ trace. trace.steps)) ∙ ap (λ (runs : List (List Step)). length runs) e ∙ length-map-range_with_len nothing_run 0 n

module _ (traces : List Trace) (t : Trace) (n hart : ℕ) (low : hart < n) (e : steps_in traces ≡ map nothing_run (numbers_below n)) where
  abbrev idle : List (List Step)
  idle = map nothing_run (numbers_below n)

  each : (k : ℕ) → k < n → get_or (set idle hart t.steps) k [] ≡ (if k == hart then t.steps else [])
  each k less = elim (cases_eq k hart) [
    | inl same ↦ (
        let long = length-map-range_with_len nothing_run 0 n in
        ap (λ (j : ℕ). get_or (set idle hart t.steps) j []) same
        ∙ get_or-set_same idle hart t.steps [] (omega (arith, low, long))
        ∙ rw (eq-eqb k hart same) refl)
    | inr other ↦ (
        get_or-set_other idle hart k t.steps [] other
        ∙ get_or-map-range_with_len nothing_run 0 n k k [] less (omega arith)
        ∙ rw (ne_eqb k hart other) refl)
  ]

  pub runs_set : steps_in (set traces hart t) ≡ map (λ h. if h == hart then t.steps else []) (numbers_below n)
  runs_set =
      map-set (λ (trace : Trace). trace.steps) traces hart t
      ∙ ap (λ (runs : List (List Step)). set runs hart t.steps) e
      ∙ fill_by_all (λ h. if h == hart then t.steps else []) (set idle hart t.steps) n []
      (length-set idle hart t.steps ∙ length-map-range_with_len nothing_run 0 n) each

  pub own_set : slice_get (set traces hart t) hart ≡ Some t
  own_set =
      let long = idle_long traces n e in
      let after = length-set traces hart t in
      slice_get-get_or (set traces hart t) hart t (omega (arith, low, long, after))
      ∙ ap Some (get_or-set_same traces hart t t (omega (arith, low, long)))

-- ---- they are few and short

module _ (t : Test) (hart : ℕ) (run : List Step) (traces : List Trace) (e : steps_in traces ≡ traces_of t hart run) where
  pub harts_are : length traces ≡ length t.codes
  harts_are =
      sym (length-map traces (λ trace. trace.steps))
      ∙ ap (λ (runs : List (List Step)). length runs) e
      ∙ length-map-range_with_len (λ h. if h == hart then run else []) 0 (length t.codes)

  either_short : (b : Bool) → length run ≤ 32 → length (if b then run else []) ≤ 32
  either_short true short = short
  either_short false short = omega arith

  pub all_short : length run ≤ 32 → All (λ trace. length trace.steps ≤ 32) traces
  all_short short = λ k d low.
      let many = harts_are in
      let is : (get_or traces k d).steps ≡ (if k == hart then run else []) =
      sym (get_or-map (λ (trace : Trace). trace.steps) traces k d [] low)
      ∙ ap (λ (runs : List (List Step)). get_or runs k []) e
      ∙ get_or-map-range_with_len (λ h. if h == hart then run else []) 0 (length t.codes) k k [] (omega (arith, low, many)) (omega arith) in
      subst (λ (steps : List Step). length steps ≤ 32) (sym is) (either_short (k == hart) short)

-- ---- no operation has the name of another hart

other_run : (t : Test) (hart : ℕ) (run : List Step) (h : ℕ) → (h ≡ hart → ⊥) → steps_of (traces_of t hart run) h ≡ []
other_run t hart run h other = elim (cases_lt h (length t.codes)) [
  | inl low ↦ (
      get_or-map-range_with_len (λ h. if h == hart then run else []) 0 (length t.codes) h h [] low (omega arith)
      ∙ rw (ne_eqb h hart other) refl)
  | inr past ↦ (
      let long = length-map-range_with_len (λ h. if h == hart then run else []) 0 (length t.codes) in
      get_or_past (traces_of t hart run) h [] (omega (arith, past, long)))
]

pub other_hart : (t : Test) (hart : ℕ) (run : List Step) (name : Name) → (name.hart ≡ hart → ⊥) → number_of (alone t hart run) name ≡ None
other_hart t hart run name other = by_number (number_of (alone t hart run) name) refl
  where
    by_number : (o : _) → number_of (alone t hart run) name ≡ o → o ≡ None
    by_number None e = refl
    by_number (Some i) e =
        let is = named (alone t hart run) i name (number_named (alone t hart run) name i e) in
        let step = is.step in
        let none : None ≡ Some step.0 = ap (λ (steps : List Step). slice_get steps (operation (alone t hart run) i).place) (sym (other_run t hart run name.hart other)) ∙ step.1 in
        absurd (cc)
