-- A run of a hart has at most one operation of a kind for each instruction of that kind in its code. So a bounded
-- test's runs have few operations.
use Rattle.std.proofs.Common.{◌≡◌, ℕ, zero, suc, ◌+◌, ◌<◌, ◌≤◌, Bool, true, false, None, Some, is_some, cond, List, [], ◌∷◌, length, map, refl, ap, arith}
use Rattle.std.specs.Prelude.{slice_get, filter}
use Rattle.std.specs.List.{count_by, sum_by, enumerate_from, flat_map, slice_index_or}
use Rattle.std.proofs.Math.ListN.{drop}
use Rattle.std.proofs.lemmas.List.{length-append, length-map}
use Rattle.std.proofs.lemmas.Option.{slice_get_within}
use Rattle.std.proofs.lemmas.List.FromFn.{length-enumerate_from}
use Rattle.std.proofs.lemmas.List.Sums.{sum_by-cons, sum_by-append}
use Rattle.std.proofs.lemmas.List.Concat.{flat_map-cons}
use Rattle.fs_instr.specs.Instructions.{is_memory}
use Rattle.fs_instr.specs.declared.instr.Instr.{Instr}
use Rattle.fs_instr.specs.declared.instr.Instr.TheVariants.{Lw, Sw, Lr, Sc, Amo}
use Rattle.fs_model.specs.Test.{GoesForward, IsBounded}
use Rattle.fs_model.specs.declared.test.Test.{Test}
use Rattle.fs_model.specs.declared.hart.Hart.{Hart}
use Rattle.fs_model.specs.declared.operation.Operation.{Operation}
use Rattle.fs_model.specs.declared.step.Step.{Step}
use Rattle.fs_model.specs.Execute.{next_after}
use Rattle.fs_model.specs.Trace.{Accesses, AreSteps, after_step, start_with}
use Rattle.fs_model.specs.Operations.{access_of, accesses_of, accesses, initial_store, operations, steps_of}
use Rattle.fs_model.specs.Execution.{IsTrace, code_of, initial_words, pre_execution, registers_of}
use Rattle.fs_model.proofs.OptionalNumbers.{none_there}
use Rattle.fs_model.proofs.Counts.{one_if, one_if_le, count-cons}
use Rattle.fs_hart.proofs.Forward.{goes_on}

-- ---- one operation for each instruction that counts

-- each step whose operation passes is of an instruction that counts
abbrev pub IsOfKind : (Operation → Bool) → (Instr → Bool) → Type 0
IsOfKind passes counts =
    (n : ℕ) (h : Hart) (s : Step) (hart place : ℕ) → Accesses n h s s.instr → is_some s.address ≡ true
    → passes (access_of hart (place, s)) ≡ true → counts s.instr ≡ true

module _ (passes : Operation → Bool) (counts : Instr → Bool) (kind : IsOfKind passes counts) where
  -- the number of instructions that count, from this position on
  abbrev counted_from : ℕ → List Instr → ℕ
  counted_from at code = count_by counts (drop at code)

  -- from a later position on there are no more
  fewer_later : (code : List Instr) (at later : ℕ) → at ≤ later → counted_from later code ≤ counted_from at code
  fewer_later [] zero zero low = omega arith
  fewer_later [] zero (suc later) low = omega arith
  fewer_later [] (suc at) zero low = omega arith
  fewer_later [] (suc at) (suc later) low = omega arith
  fewer_later (i ∷ code) zero zero low = omega arith
  fewer_later (i ∷ code) zero (suc later) low =
      let rest = fewer_later code zero later (omega arith) in
      let all = count-cons counts i code in
      omega (arith, rest, all)
  fewer_later (i ∷ code) (suc at) zero low = absurd (omega (arith, low))
  fewer_later (i ∷ code) (suc at) (suc later) low = fewer_later code at later (omega (arith, low))

  -- past one that counts, one fewer
  fewer_after : (code : List Instr) (at later : ℕ) (i : Instr) → slice_get code at ≡ Some i → at < later
      → one_if (counts i) + counted_from later code ≤ counted_from at code
  fewer_after [] at later i e low = let none : None ≡ Some i = e in cc
  fewer_after (j ∷ code) zero zero i e low = absurd (omega (arith, low))
  fewer_after (j ∷ code) zero (suc later) i e low =
      let same : Some j ≡ Some i = e in
      let one : j ≡ i = cc in
      let rest = fewer_later code zero later (omega arith) in
      let all = count-cons counts j code in
      omega (arith, rest, all, ap (λ k. one_if (counts k)) one)
  fewer_after (j ∷ code) (suc at) zero i e low = absurd (omega (arith, low))
  fewer_after (j ∷ code) (suc at) (suc later) i e low = fewer_after code at later i e (omega (arith, low))

  abbrev accesses_from : ℕ → ℕ → List Step → List Operation
  accesses_from hart k steps = map (access_of hart) (filter (λ numbered. is_some numbered.1.address) (enumerate_from k steps))

  one_step : (n : ℕ) (h : Hart) (hart k : ℕ) (s : Step) (ss : List Step) → Accesses n h s s.instr
      → count_by passes (accesses_from hart k (s ∷ ss)) ≤ one_if (counts s.instr) + count_by passes (accesses_from hart (k + 1) ss)
  one_step n h hart k s ss access =
      by_case (is_some s.address) refl (filter (λ numbered. is_some numbered.1.address) (enumerate_from (k + 1) ss))
    where
      by_case : (b : Bool) → is_some s.address ≡ b → (rest : List (ℕ × Step))
          → count_by passes (map (access_of hart) (cond b ((k, s) ∷ rest) rest)) ≤ one_if (counts s.instr) + count_by passes (map (access_of hart) rest)
      by_case true there rest =
          let all = count-cons passes (access_of hart (k, s)) (map (access_of hart) rest) in
          let one = one_if_le (passes (access_of hart (k, s))) (counts s.instr) (kind n h s hart k access there) in
          omega (arith, all, one)
      by_case false there rest = omega arith

  few_from : (n : ℕ) (code : List Instr) (h : Hart) (hart k : ℕ) (steps : List Step) → GoesForward code → AreSteps n code h steps
      → count_by passes (accesses_from hart k steps) ≤ counted_from h.at code
  few_from n code h hart k [] f r = omega arith
  few_from n code h hart k (s ∷ steps) f r =
      let one = one_step n h hart k s steps r.0.2 in
      let here = slice_get_within code h.at s.instr r.0.1 in
      let next = (goes_on code h.at h.registers s.instr f here r.0.1).0 in
      let later = fewer_after code h.at (next_after h.registers h.at s.instr) s.instr r.0.1 next in
      let rest = few_from n code (after_step h s) hart (k + 1) steps f r.1 in
      omega (arith, one, later, rest)

  few_of_harts : (first : ℕ) (traces : List (List Step)) (codes : List (List Instr)) → length traces ≡ length codes
      → ((hart k : ℕ) → k < length codes
      → count_by passes (accesses_of (hart, steps_of traces k)) ≤ count_by counts (slice_index_or codes k []))
      → count_by passes (flat_map accesses_of (enumerate_from first traces)) ≤ sum_by (count_by counts) codes
  few_of_harts first [] codes e few = omega arith
  few_of_harts first (steps ∷ traces) [] e few = absurd (omega (arith, e))
  few_of_harts first (steps ∷ traces) (code ∷ codes) e few =
      let rest = few_of_harts (first + 1) traces codes (omega (arith, e)) (λ hart k low. few hart (suc k) (omega (arith, low))) in
      let mine : count_by passes (accesses_of (first, steps)) ≤ count_by counts code = few first zero (omega arith) in
      let parts = ap (count_by passes) (flat_map-cons accesses_of (first, steps) (enumerate_from (first + 1) traces)) in
      let both = sum_by-append (λ o. cond (passes o) 1 0) (accesses_of (first, steps)) (flat_map accesses_of (enumerate_from (first + 1) traces)) in
      let all = sum_by-cons (count_by counts) code codes in
      omega (arith, rest, mine, parts, both, all)

  -- no more operations pass than instructions count
  pub few_of_kind : (t : Test) (traces : List (List Step)) → ((k : ℕ) → k < length t.codes → GoesForward (code_of t k))
      → length traces ≡ length t.codes → ((hart : ℕ) → hart < length t.codes → IsTrace t hart (steps_of traces hart))
      → count_by passes (accesses (pre_execution t traces)) ≤ sum_by (count_by counts) t.codes
  few_of_kind t traces forward same runs =
      few_of_harts 0 traces t.codes same (λ hart k low.
      few_from (length t.locations) (code_of t k) (start_with (registers_of t k)) hart 0 (steps_of traces k) (forward k low) (runs k low).0)

-- ---- all operations, one for each memory instruction

only_memory : (n : ℕ) (h : Hart) (s : Step) (i : Instr) → Accesses n h s i → is_some s.address ≡ true → is_memory i ≡ true
only_memory n h s (Lw ann rd base offset) a there = refl
only_memory n h s (Sw ann value base offset) a there = refl
only_memory n h s (Lr ann rd base) a there = refl
only_memory n h s (Sc ann rd value base) a there = refl
only_memory n h s (Amo op ann rd value base) a there = refl
only_memory n h s _ a there = absurd (none_there s.address a.0 there)

count_all : (os : List Operation) → count_by (λ o. true) os ≡ length os
count_all [] = refl
count_all (o ∷ os) =
    let rest = count_all os in
    let all = count-cons (λ (o : Operation). true) o os in
    omega (arith, rest, all)

-- a bounded test's runs have at most 48 operations of harts
pub few_accesses : (t : Test) (traces : List (List Step)) → IsBounded t → length traces ≡ length t.codes
    → ((hart : ℕ) → hart < length t.codes → IsTrace t hart (steps_of traces hart))
    → length (accesses (pre_execution t traces)) ≤ 48
few_accesses t traces bounded same runs =
    let few = few_of_kind (λ o. true) is_memory (λ n h s hart place access there passes. only_memory n h s s.instr access there) t traces
    (λ k low. bounded.forward k [] low) same runs in
    let all = count_all (accesses (pre_execution t traces)) in
    let limit = bounded.accesses in
    omega (arith, few, all, limit)

-- and at most 56 with the initial stores
pub few_operations : (t : Test) (traces : List (List Step)) → IsBounded t → length traces ≡ length t.codes
    → ((hart : ℕ) → hart < length t.codes → IsTrace t hart (steps_of traces hart))
    → length (operations (pre_execution t traces)) ≤ 56
few_operations t traces bounded same runs =
    let few = few_accesses t traces bounded same runs in
    let parts = length-append (accesses (pre_execution t traces)) (map initial_store (enumerate_from 0 (initial_words t))) in
    let stores = length-map (enumerate_from 0 (initial_words t)) initial_store in
    let numbered = length-enumerate_from 0 (initial_words t) in
    let words = length-map t.locations (λ location. location.word) in
    let limit = bounded.locations in
    omega (arith, few, parts, stores, numbered, words, limit)
