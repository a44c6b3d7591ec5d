-- The loads and stores of an execution: each loaded word is that of a store, and nothing rests on itself.
use Rattle.std.proofs.Common.{◌≡◌, ℕ, ◌<◌, List, length, Bool, true, Option, Some, None, is_some, refl, sym, ap, ◌∙◌, inl, inr, arith}
use Rattle.std.specs.Prelude.{option_and_then}
use Rattle.std.proofs.lemmas.Bool.{false≢true, or_left, and_parts}
use Rattle.fs_kinds.specs.declared.placement.Entry.{Entry}
use Rattle.fs_instr.specs.declared.instr.Instr.{Instr}
use Rattle.fs_instr.specs.declared.instr.Instr.TheVariants.{Sw, Sc, Amo}
use Rattle.fs_model.specs.declared.test.Test.{Test}
use Rattle.fs_model.specs.declared.hart.Hart.{Hart}
use Rattle.fs_model.specs.declared.operation.Operation.{Operation}
use Rattle.fs_model.specs.declared.step.Step.{Step}
use Rattle.fs_model.specs.Forms.{is_amo}
use Rattle.fs_model.specs.Operations.{PreExecution, operation, place, steps_of, is_load, is_store, is_amo_or_sc}
use Rattle.fs_model.specs.Trace.{Accesses}
use Rattle.fs_model.specs.Source.{source_in}
use Rattle.fs_model.specs.Execution.{Execution, IsExecution, IsTrace, pre_execution}
use Rattle.fs_model.proofs.OptionalNumbers.{same_is}
use Rattle.fs_model.proofs.HartOperations.{access_is}
use Rattle.fs_model.proofs.WhichOperation.{load_access}
use Rattle.fs_model.proofs.RunLocations.{made_at}
use Rattle.fs_values.specs.ThinAir.{HoldsOfStores}
use Rattle.fs_values.proofs.Accessible.{source_may, has_all}

-- what loads and stores is an AMO
both_amo : (n : ℕ) (h : Hart) (u : Step) (i : Instr) → Accesses n h u i → is_some u.loaded ≡ true → is_some u.stored ≡ true → is_amo i ≡ true
both_amo n h u i a l s = by_form i a
  where
    no_store : {b : Bool} → u.stored ≡ None → b ≡ true
    no_store e = absurd (false≢true (sym (ap is_some e) ∙ s))

    no_word : {b : Bool} → u.loaded ≡ None → b ≡ true
    no_word e = absurd (false≢true (sym (ap is_some e) ∙ l))

    by_form : (i : Instr) → Accesses n h u i → is_amo i ≡ true
    by_form (Sw ann value base offset) a = no_word a.1
    by_form (Sc ann rd value base) a = elim a [ inl b ↦ no_word b.2 | inr b ↦ no_store b.2 ]
    by_form (Amo op ann rd value base) a = refl
    by_form _ a = no_store a.2

-- ---- an execution

module _ (t : Test) (p : List Entry) (e : Execution) (is_execution : IsExecution t p e) where
  abbrev x : PreExecution
  x = pre_execution t e.traces

  abbrev rf : ℕ → Option ℕ
  rf = source_in x e.order

  pub run_of : (hart : ℕ) → hart < length e.traces → (hart < length t.codes) × IsTrace t hart (steps_of e.traces hart)
  run_of hart low =
      let same = is_execution.harts in
      let of_test : hart < length t.codes = omega (arith, low, same) in
      (of_test, is_execution.runs hart of_test)

  pub amo : (a : ℕ) → is_load x a ≡ true → is_store x a ≡ true → is_amo_or_sc x a ≡ true
  amo a l s =
      let f = access_is x a (load_access x a l) in
      let step = made_at t e.traces (record { harts = is_execution.harts; runs = is_execution.runs }) f.hart (place x a) f.step f.low f.there in
      let is = both_amo (length t.locations) step.0 f.step f.step.instr step.1.2
      (ap (λ (o : Operation). is_some o.loaded) (sym f.is) ∙ l) (ap (λ (o : Operation). is_some o.stored) (sym f.is) ∙ s) in
      or_left _ _ (ap (λ (o : Operation). is_amo o.instr) f.is ∙ is)

  -- a loaded word is that of a store at the same location
  pub loaded_from : (b w : ℕ) → (operation x b).loaded ≡ Some w
      → (r : ℕ) × (rf b ≡ Some r) × ((operation x r).stored ≡ Some w) × ((operation x r).address ≡ (operation x b).address)
  loaded_from b w l = by_source (rf b) refl
    where
      returned : (operation x b).loaded ≡ option_and_then (λ s. (operation x s).stored) (rf b)
      returned = is_execution.axioms.values b (ap is_some l)

      by_source : (o : Option ℕ) → rf b ≡ o
          → (r : ℕ) × (rf b ≡ Some r) × ((operation x r).stored ≡ Some w) × ((operation x r).address ≡ (operation x b).address)
      by_source None q =
          let none : None ≡ Some w = ap (option_and_then (λ s. (operation x s).stored)) (sym q) ∙ sym returned ∙ l in absurd (cc)
      by_source (Some r) q =
          let may = and_parts _ _ (and_parts _ _ (source_may x e.order b r q)).0 in (
            r,
            q,
            ap (option_and_then (λ s. (operation x s).stored)) (sym q) ∙ sym returned ∙ l,
            same_is _ _ may.1,
          )

  pub no_cycle : (P : ℕ → Type 0) → HoldsOfStores t e P
  no_cycle P closed = has_all x p e.order is_execution.axioms amo P (λ s store h. closed s store (λ a r is from. h a is r from))
