-- The first hart whose choices make no whole run.
use Rattle.std.proofs.Common.{◌≡◌, ℕ, zero, suc, ◌+◌, ◌<◌, ◌⊎◌, inl, inr, option_map, None, Some, List, [], ◌∷◌, ◌++◌, length, refl, sym, ◌∙◌, ap, subst, arith, map}
use Rattle.std.specs.Prelude.{slice_get}
use Rattle.std.specs.List.{slice_index_or}
use Rattle.std.proofs.lemmas.Option.{slice_get_cases, slice_get-map, get_or_from_slice_get}
use Rattle.std.proofs.lemmas.List.{length-map, length-append}
use Rattle.fs_kinds.specs.declared.placement.Entry.{Entry}
use Rattle.fs_kinds.specs.declared.reason.OperationName.{OperationName as Name}
use Rattle.fs_kinds.specs.declared.reason.Reason.{Reason}
use Rattle.fs_model.specs.declared.test.Test.{Test}
use Rattle.fs_model.specs.declared.step.Step.{Step}
use Rattle.fs_model.specs.declared.step.Choice.{Choice}
use Rattle.fs_model.specs.declared.step.Stop.{Stop}
use Rattle.fs_model.specs.declared.step.Stop.TheVariants.{Short, Long, BadChoice, BadSc, Astray}
use Rattle.fs_model.specs.Witness.{Chooses}
use Rattle.fs_model.specs.Reasons.{AreRuns, IsFirstStop, IsReason}
use Rattle.fs_hart.specs.declared.trace.Trace.{Trace}
use Rattle.fs_hart.specs.declared.trace.Run.{Run}
use Rattle.fs_hart.specs.declared.trace.Run.TheVariants as run
use Rattle.fs_hart.specs.Runs.{Stops, IsRunOf}
use Rattle.fs_check.specs.inner.WitnessRuns.{AreWholeRuns, reason_of}

just : {A : Type 0} {a b : A} → Some a ≡ Some b → a ≡ b
just e = cc

push_cases : {A : Type 0} (before : List A) (x found : A) (k : ℕ) → slice_get (before ++ x ∷ []) k ≡ Some found → (slice_get before k ≡ Some found) ⊎ ((k ≡ length before) × (x ≡ found))
push_cases [] x found zero e = inr (refl, let f : Some x ≡ Some found = e in cc)
push_cases [] x found (suc k) e = absurd (let none : None ≡ Some found = e in cc)
push_cases (b ∷ before) x found zero e = inl e
push_cases (b ∷ before) x found (suc k) e = elim (push_cases before x found k e) [
  | inl old ↦ inl old
  | inr new ↦ inr (omega (arith, new.0), new.1)
]

pub one_more : (t : Test) (choices : List (List Choice)) (traces : List Trace) (trace : Trace) → AreWholeRuns t choices traces
    → IsRunOf t (length traces) (slice_index_or choices (length traces) []) (run.Whole trace) → AreWholeRuns t choices (traces ++ trace ∷ [])
one_more t choices traces trace whole more hart found e = elim (push_cases traces trace found hart e) [
  | inl old ↦ whole hart found old
  | inr new ↦ subst (λ u. IsRunOf t hart (slice_index_or choices hart []) (run.Whole u)) new.1 (subst (λ k. IsRunOf t k (slice_index_or choices k []) (run.Whole trace)) (sym new.0) more)
]

module _ (t : Test) (choices : List (List Choice)) (traces : List Trace) (whole : AreWholeRuns t choices traces) where
  run_before : (hart : ℕ) → hart < length traces → (ss : List Step) × Chooses t hart (slice_index_or choices hart []) ss
  run_before hart low = elim (slice_get_cases traces hart).1 [
    | inl there ↦ (there.0.steps, (whole hart there.0 there.2).0)
    | inr past ↦ absurd (omega (arith, low, past.0))
  ]

  first_stop : (stop : Stop) (order : List Name) → length traces < length t.codes → Stops t (length traces) (slice_index_or choices (length traces) []) stop
      → IsFirstStop t (record { choices = choices; order = order }) (length traces) stop
  first_stop stop order low stops = record { hart_of_test = low; steps = stops.0; stopped = stops.1; earlier = run_before }

  -- what stops the next hart is the reason
  pub stopped : (made : Run) (why : Reason) (p : List Entry) (order : List Name) → length traces < length t.codes
      → IsRunOf t (length traces) (slice_index_or choices (length traces) []) made → reason_of (length traces) made ≡ Some why
      → IsReason t p (record { choices = choices; order = order }) why
  stopped (run.Whole trace) why p order low of e = absurd (let none : None ≡ Some why = e in cc)
  stopped (run.Astray at) why p order low of e = subst (IsReason t p (record { choices = choices; order = order })) (just e) (first_stop (Astray at) order low of)
  stopped run.Short why p order low of e = subst (IsReason t p (record { choices = choices; order = order })) (just e) (Short, refl, first_stop Short order low of)
  stopped run.Long why p order low of e = subst (IsReason t p (record { choices = choices; order = order })) (just e) (Long, refl, first_stop Long order low of)
  stopped run.BadChoice why p order low of e = subst (IsReason t p (record { choices = choices; order = order })) (just e) (BadChoice, refl, first_stop BadChoice order low of)
  stopped run.BadSc why p order low of e = subst (IsReason t p (record { choices = choices; order = order })) (just e) (BadSc, refl, first_stop BadSc order low of)

-- whole runs of all harts are those of each witness with these choices
pub all_whole : (t : Test) (choices : List (List Choice)) (traces : List Trace) (order : List Name) → length traces ≡ length t.codes → AreWholeRuns t choices traces
    → AreRuns t (record { choices = choices; order = order }) (map (λ trace. trace.steps) traces)
all_whole t choices traces order count whole = record {
  harts = length-map traces (λ trace. trace.steps) ∙ count;
  whole = λ hart low. elim (slice_get_cases traces hart).1 [
    | inl there ↦ subst (Chooses t hart (slice_index_or choices hart []))
        (sym (get_or_from_slice_get (map (λ trace. trace.steps) traces) hart there.0.steps [] (slice_get-map (λ trace. trace.steps) traces hart ∙ ap (option_map (λ trace. trace.steps)) there.2)))
        (whole hart there.0 there.2).0
    | inr past ↦ absurd (omega (arith, low, past.0, count))
  ];
}

-- ---- the same, with the hart's number by itself

pub more_at : (t : Test) (choices : List (List Choice)) (traces items : List Trace) (trace : Trace) (hart : ℕ) (list : List Choice) (made : Run) → length traces ≡ hart
    → AreWholeRuns t choices traces → slice_index_or choices hart [] ≡ list → IsRunOf t hart list made → made ≡ run.Whole trace → items ≡ traces ++ trace ∷ []
    → (length items ≡ hart + 1) × AreWholeRuns t choices items
more_at t choices traces items trace hart list made count whole is of e k = (
  ap length k ∙ length-append traces (trace ∷ []) ∙ ap (λ n. n + 1) count,
  subst (AreWholeRuns t choices) (sym k) (one_more t choices traces trace whole
      (subst (λ n. IsRunOf t n (slice_index_or choices n []) (run.Whole trace)) (sym count) (subst (λ cs. IsRunOf t hart cs (run.Whole trace)) (sym is) (subst (IsRunOf t hart list) e of)))),
)

pub stopped_at : (t : Test) (choices : List (List Choice)) (traces : List Trace) (hart : ℕ) (list : List Choice) (made : Run) (why : Reason) → length traces ≡ hart
    → AreWholeRuns t choices traces → hart < length t.codes → slice_index_or choices hart [] ≡ list → IsRunOf t hart list made → reason_of hart made ≡ Some why
    → (p : List Entry) (order : List Name) → IsReason t p (record { choices = choices; order = order }) why
stopped_at t choices traces hart list made why count whole low is of e p order =
    stopped t choices traces whole made why p order (omega (arith, count, low))
    (subst (λ n. IsRunOf t n (slice_index_or choices n []) made) (sym count) (subst (λ cs. IsRunOf t hart cs made) (sym is) of))
    (subst (λ n. reason_of n made ≡ Some why) (sym count) e)
