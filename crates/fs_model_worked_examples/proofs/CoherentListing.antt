-- Coherent reads have no other candidate that shows the outcome.
use Rattle.std.proofs.Common.{◌≡◌, ℕ, zero, suc, ◌<◌, ◌==◌, Bool, true, Option, None, Some, List, [], ◌∷◌, length, refl, sym, ◌∙◌, ap, subst, arith, lit<, lit≤, Box, pos}
use Rattle.std.specs.List.{Contains, slice_index_or}
use Rattle.std.specs.declared.alloc.Global.{Global}
use Rattle.std.proofs.lemmas.Bool.{and_parts, eqb-true, false≢true}
use Rattle.fs_instr.specs.Names.{plain}
use Rattle.fs_instr.specs.declared.names.ImmOp.TheVariants.{Ori}
use Rattle.fs_instr.specs.declared.instr.Instr.TheVariants.{Immediate, Lw, Sw}
use Rattle.fs_model.specs.declared.test.Test.{Test}
use Rattle.fs_model.specs.Condition.{condition_of}
use Rattle.fs_model.specs.declared.step.Step.{Step}
use Rattle.fs_model.specs.Operations.{PreExecution, steps_of, operations}
use Rattle.fs_model.specs.Execution.{IsTrace, code_of, registers_of}
use Rattle.fs_model.specs.Shows.{holds, final_register}
use Rattle.fs_model.specs.Trace.{start_with, after_step}
use Rattle.fs_cert_evidence.specs.Candidates.{Candidate, IsShowing, rf, is_sourced, is_store_order, stores_to, last_word}
use Rattle.fs_cert_evidence.specs.Listings.{IsListing}
use Rattle.fs_model_worked_examples.specs.CoherentReads.{corr, store, stale}
use Rattle.fs_model_worked_examples.proofs.CoherentReads.{showing}
use Rattle.fs_model_worked_examples.proofs.Inversion.{step_of, computes, stores_next, loads_next, at_end, followed, two_runs, same_candidate, two_in_order}

-- the loads return these words
abbrev loads_of : ℕ → ℕ → List Step
loads_of l m =
    record { at = 0; instr = Lw plain 5 6 (pos 0); address = Some 4096; loaded = Some l; stored = None }
    ∷ record { at = 1; instr = Lw plain 7 6 (pos 0); address = Some 4096; loaded = Some m; stored = None }
    ∷ []

abbrev x : PreExecution
x = record { traces = store ∷ loads_of 1 0 ∷ []; words = 0 ∷ [] }

-- what is no load has no source, and each load has one store to return
source_0 : (o : Option ℕ) → is_sourced x 0 o ≡ true → o ≡ None
source_0 None h = refl
source_0 (Some s) h = absurd (false≢true h)

source_1 : (o : Option ℕ) → is_sourced x 1 o ≡ true → o ≡ Some 0
source_1 None h = absurd (false≢true h)
source_1 (Some zero) h = refl
source_1 (Some (suc zero)) h = absurd (false≢true h)
source_1 (Some (suc (suc zero))) h = absurd (false≢true h)
source_1 (Some (suc (suc (suc zero)))) h = absurd (false≢true h)
source_1 (Some (suc (suc (suc (suc s))))) h = absurd (false≢true h)

source_2 : (o : Option ℕ) → is_sourced x 2 o ≡ true → o ≡ Some 3
source_2 None h = absurd (false≢true h)
source_2 (Some zero) h = absurd (false≢true h)
source_2 (Some (suc zero)) h = absurd (false≢true h)
source_2 (Some (suc (suc zero))) h = absurd (false≢true h)
source_2 (Some (suc (suc (suc zero)))) h = refl
source_2 (Some (suc (suc (suc (suc s))))) h = absurd (false≢true h)

source_3 : (o : Option ℕ) → is_sourced x 3 o ≡ true → o ≡ None
source_3 None h = refl
source_3 (Some s) h = absurd (false≢true h)

-- the initial store is first, and then the other one
in_order : (ns : List ℕ) → is_store_order x 0 ns ≡ true → ns ≡ 3 ∷ 0 ∷ []
in_order ns h = two_in_order ns 3 0 refl h

sources_are : (os : List (Option ℕ)) → length os ≡ 4 → ((a : ℕ) → a < length os → is_sourced x a (slice_index_or os a None) ≡ true)
    → os ≡ None ∷ Some 0 ∷ Some 3 ∷ None ∷ []
sources_are [] e sourced = absurd (omega (arith, e))
sources_are (a ∷ []) e sourced = absurd (omega (arith, e))
sources_are (a ∷ b ∷ []) e sourced = absurd (omega (arith, e))
sources_are (a ∷ b ∷ c ∷ []) e sourced = absurd (omega (arith, e))
sources_are (a ∷ b ∷ c ∷ d ∷ []) e sourced =
    let k = source_0 a (sourced 0 (lit< tt)) in
    let l = source_1 b (sourced 1 (lit< tt)) in
    let m = source_2 c (sourced 2 (lit< tt)) in
    let n = source_3 d (sourced 3 (lit< tt)) in
    cc
sources_are (a ∷ b ∷ c ∷ d ∷ f ∷ os) e sourced = absurd (omega (arith, e))

orders_are : (orders : List (List ℕ)) → length orders ≡ 1 → is_store_order x 0 (slice_index_or orders 0 []) ≡ true → orders ≡ (3 ∷ 0 ∷ []) ∷ []
orders_are [] e h = absurd (omega (arith, e))
orders_are (a ∷ []) e h = ap (λ ns. ns ∷ []) (in_order a h)
orders_are (a ∷ b ∷ orders) e h = absurd (omega (arith, e))

module _ (p q : Box (Unit {0}) Global) where
  abbrev t : Test
  t = corr p q

  storing : (ss : List Step) → IsTrace t 0 ss → ss ≡ store
  storing ss run =
      let h = start_with (registers_of t 0) in
      let a = computes 1 (code_of t 0) h ss Ori 5 0 (pos 1) refl run in
      let k = after_step h (step_of h (Immediate Ori 5 0 (pos 1)) None) in
      let b = stores_next 1 (code_of t 0) k a.rest 5 6 (pos 0) refl a.ends in
      let done = at_end 1 (code_of t 0) (after_step k (step_of k (Sw plain 5 6 (pos 0)) None)) b.rest (lit≤ tt) b.ends in
      followed a _ (followed b _ done)

  loading : (ss : List Step) → IsTrace t 1 ss → (l m : ℕ) × (ss ≡ loads_of l m)
  loading ss run =
      let h = start_with (registers_of t 1) in
      let a = loads_next 1 (code_of t 1) h ss 5 6 (pos 0) refl run in
      let k = after_step h (step_of h (Lw plain 5 6 (pos 0)) (Some a.0)) in
      let b = loads_next 1 (code_of t 1) k a.1.rest 7 6 (pos 0) refl a.1.ends in
      let done = at_end 1 (code_of t 1) (after_step k (step_of k (Lw plain 7 6 (pos 0)) (Some b.0))) b.1.rest (lit≤ tt) b.1.ends in
      (a.0, b.0, followed a.1 _ (followed b.1 _ done))

  -- the outcome says what the loads return
  abbrev shows : Candidate → List (List Step) → Bool
  shows c runs = holds (final_register t runs) (last_word t c) (condition_of t.condition)

  returned : (c : Candidate) (l m : ℕ) → shows c (store ∷ loads_of l m ∷ []) ≡ true → (l ≡ 1) × (m ≡ 0)
  returned c l m h =
      let parts = and_parts (l == 1) (m == 0) h in
      (eqb-true l 1 parts.0, eqb-true m 0 parts.1)

  traces_are : (c : Candidate) → IsShowing t c → c.traces ≡ store ∷ loads_of 1 0 ∷ []
  traces_are c s =
      let first = storing (steps_of c.traces 0) (s.raw.runs.runs 0 (lit< tt)) in
      let second = loading (steps_of c.traces 1) (s.raw.runs.runs 1 (lit< tt)) in
      let both : c.traces ≡ store ∷ loads_of second.0 second.1 ∷ [] = two_runs c.traces s.raw.runs.harts ∙ (let a = first in let b = second.2 in cc) in
      let words = returned c second.0 second.1 (subst (λ runs. shows c runs ≡ true) both s.outcome) in
      both ∙ (let a = words.0 in let b = words.1 in cc)

  alone : (c : Candidate) → IsShowing t c → c ≡ stale
  alone c s =
      let traces = traces_are c s in
      let each = subst (λ runs. length c.source ≡ length (operations (record { traces = runs; words = 0 ∷ [] }))) traces s.raw.sources_for_each in
      let sourced = subst (λ runs. (a : ℕ) → a < length c.source → is_sourced (record { traces = runs; words = 0 ∷ [] }) a (rf c a) ≡ true) traces s.raw.sources in
      let ordered = subst (λ runs. (k : ℕ) → k < 1 → is_store_order (record { traces = runs; words = 0 ∷ [] }) k (stores_to c k) ≡ true) traces s.raw.orders in
      let source = sources_are c.source each sourced in
      let orders = orders_are c.store_order s.raw.locations (ordered 0 (lit< tt)) in
      same_candidate c stale traces source orders

  pub listing : IsListing t (stale ∷ [])
  listing = record {
    rising = (λ i j d before low. absurd (omega (arith, before, low)));
    exact = (λ c. (λ there. shown c there, λ s. (0, lit< tt, sym (alone c s))));
  }
    where
      shown : (c : Candidate) → Contains (stale ∷ []) c → IsShowing t c
      shown c (zero, low, same) = subst (λ d. IsShowing t d) same (showing p q)
      shown c (suc k, low, same) = absurd (omega (arith, low))
