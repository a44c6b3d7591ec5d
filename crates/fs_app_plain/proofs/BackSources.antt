-- The loads and stores of an execution with 64 bits: each loaded word is that of a store, and nothing rests on itself.
use Rattle.std.proofs.Common.{◌≡◌, ℕ, zero, suc, ◌<◌, List, [], ◌∷◌, length, Bool, true, Option, Some, None, is_some, refl, sym, ap, subst, ◌∙◌, inl, inr, arith}
use Rattle.std.specs.Prelude.{slice_get, option_and_then}
use Rattle.std.proofs.lemmas.Bool.{false≢true, or_left, and_parts}
use Rattle.fs_kinds.specs.declared.placement.Entry.{Entry}
use Rattle.fs_instr.specs.declared.instr.Instr.{Instr}
use Rattle.fs_instr.specs.declared.instr.Instr.TheVariants.{Sw, Sc, Amo}
use Rattle.fs_model.specs.declared.test.Test.{Test}
use Rattle.fs_model.specs.declared.hart.Hart.{Hart}
use Rattle.fs_model.specs.declared.operation.Operation.{Operation}
use Rattle.fs_model.specs.declared.step.Step.{Step}
use Rattle.fs_model.specs.Forms.{is_amo}
use Rattle.fs_model.specs.Operations.{PreExecution, operation, place, steps_of, is_load, is_store, is_amo_or_sc}
use Rattle.fs_model.specs.Source.{source_in}
use Rattle.fs_model.specs.Execution.{Execution, code_of, registers_of}
use Rattle.fs_model.proofs.OptionalNumbers.{same_is}
use Rattle.fs_model.proofs.HartOperations.{access_is}
use Rattle.fs_model.proofs.RunLocations.{same_step}
use Rattle.fs_model.proofs.WhichOperation.{load_access}
use Rattle.fs_values.specs.ThinAir.{rests}
use Rattle.fs_values.proofs.Accessible.{source_may, has_all}
use Rattle.fs_app_plain.specs.Wide.{Accesses, IsStep, AreSteps, Runs, after_step, start_with, pre_execution, IsWideExecution}

-- what loads and stores is an AMO
both_amo : (n : ℕ) (h : Hart) (u : Step) (i : Instr) → Accesses n h u i → is_some u.loaded ≡ true
    → is_some u.stored ≡ true → is_amo i ≡ true
both_amo n h u i a l s = by_form i a
  where
    no_store : {b : Bool} → u.stored ≡ None → b ≡ true
    no_store e = absurd (false≢true (sym (ap is_some e) ∙ s))

    no_word : {b : Bool} → u.loaded ≡ None → b ≡ true
    no_word e = absurd (false≢true (sym (ap is_some e) ∙ l))

    by_form : (i : Instr) → Accesses n h u i → is_amo i ≡ true
    by_form (Sw ann value base offset) a = no_word a.1
    by_form (Sc ann rd value base) a = elim a [ inl b ↦ no_word b.2 | inr b ↦ no_store b.2 ]
    by_form (Amo op ann rd value base) a = refl
    by_form _ a = no_store a.2

-- the step at a place, in some state of the hart
step_at : (n : ℕ) (code : List Instr) (h : Hart) (steps : List Step) (j : ℕ) (s : Step) → AreSteps n code h steps
    → slice_get steps j ≡ Some s → (g : Hart) × IsStep n code g s
step_at n code h [] j s run e = absurd (let none : None ≡ Some s = e in cc)
step_at n code h (v ∷ vs) zero s run e = (h, subst (IsStep n code h) (same_step v s e) run.0)
step_at n code h (v ∷ vs) (suc j) s run e = step_at n code (after_step h v) vs j s run.1 e

-- ---- an execution

module _ (t : Test) (p : List Entry) (e : Execution) (is_execution : IsWideExecution t p e) where
  abbrev x : PreExecution
  x = pre_execution t e.traces

  abbrev rf : ℕ → Option ℕ
  rf = source_in x e.order

  pub run_of : (hart : ℕ) → hart < length e.traces
      → (hart < length t.codes) × Runs (length t.locations) (code_of t hart) (registers_of t hart) (steps_of e.traces hart)
  run_of hart low =
      let same = is_execution.harts in
      let of_test : hart < length t.codes = omega (arith, low, same) in
      (of_test, is_execution.runs hart of_test)

  amo : (a : ℕ) → is_load x a ≡ true → is_store x a ≡ true → is_amo_or_sc x a ≡ true
  amo a l s =
      let f = access_is x a (load_access x a l) in
      let step = step_at (length t.locations) (code_of t f.hart) (start_with (registers_of t f.hart)) (steps_of e.traces f.hart) (place x a)
      f.step (run_of f.hart f.low).1.0 f.there in
      let is = both_amo (length t.locations) step.0 f.step f.step.instr step.1.2
      (ap (λ (o : Operation). is_some o.loaded) (sym f.is) ∙ l) (ap (λ (o : Operation). is_some o.stored) (sym f.is) ∙ s) in
      or_left _ _ (ap (λ (o : Operation). is_amo o.instr) f.is ∙ is)

  -- a loaded word is that of a store at the same location
  pub loaded_from : (b w : ℕ) → (operation x b).loaded ≡ Some w
      → (r : ℕ) × (rf b ≡ Some r) × ((operation x r).stored ≡ Some w) × ((operation x r).address ≡ (operation x b).address)
  loaded_from b w l = by_source (rf b) refl
    where
      returned : (operation x b).loaded ≡ option_and_then (λ s. (operation x s).stored) (rf b)
      returned = is_execution.axioms.values b (ap is_some l)

      by_source : (o : Option ℕ) → rf b ≡ o
          → (r : ℕ) × (rf b ≡ Some r) × ((operation x r).stored ≡ Some w) × ((operation x r).address ≡ (operation x b).address)
      by_source None q =
          let none : None ≡ Some w = ap (option_and_then (λ s. (operation x s).stored)) (sym q) ∙ sym returned ∙ l in absurd (cc)
      by_source (Some r) q =
          let may = and_parts _ _ (and_parts _ _ (source_may x e.order b r q)).0 in (
            r,
            q,
            ap (option_and_then (λ s. (operation x s).stored)) (sym q) ∙ sym returned ∙ l,
            same_is _ _ may.1,
          )

  -- what holds of each store if it holds of the sources of all the loads on which it rests, holds of all stores
  pub no_cycle : (P : ℕ → Type 0)
      → ((s : ℕ) → is_store x s ≡ true → ((a r : ℕ) → rests x s a ≡ true → rf a ≡ Some r → P r) → P s)
      → (s : ℕ) → is_store x s ≡ true → P s
  no_cycle P closed =
      has_all x p e.order is_execution.axioms amo P (λ s store h. closed s store (λ a r is from. h a is r from))
