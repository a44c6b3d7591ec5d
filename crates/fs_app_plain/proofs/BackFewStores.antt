-- A run of a hart with 64 bits has at most one store for each sw, sc.w and AMO of its code.
use Rattle.std.proofs.Common.{◌≡◌, ℕ, zero, suc, ◌+◌, ◌<◌, ◌≤◌, Bool, true, false, None, Some, is_some, cond, if◌then◌else◌, List, [], ◌∷◌, length, map, refl, ap, ◌∙◌, arith}
use Rattle.std.specs.Prelude.{slice_get, filter, option_and_then}
use Rattle.std.specs.List.{count_by, sum_by, enumerate_from, flat_map, slice_index_or}
use Rattle.std.proofs.Math.ListN.{drop}
use Rattle.std.proofs.lemmas.Option.{slice_get_within}
use Rattle.std.proofs.lemmas.List.Sums.{sum_by-cons, sum_by-append}
use Rattle.std.proofs.lemmas.List.Concat.{flat_map-cons}
use Rattle.fs_instr.specs.Instructions.{target_of}
use Rattle.fs_instr.specs.declared.instr.Instr.{Instr}
use Rattle.fs_instr.specs.declared.instr.Instr.TheVariants.{Register, Immediate, Shift, Lui, Li, Lw, Sw, Lr, Sc, Amo, Branch, Jump, Fence, FenceTso, FenceI}
use Rattle.fs_model.specs.Execute.{read}
use Rattle.fs_model.specs.Test.{GoesForward}
use Rattle.fs_model.specs.declared.test.Test.{Test}
use Rattle.fs_model.specs.declared.hart.Hart.{Hart}
use Rattle.fs_model.specs.declared.operation.Operation.{Operation}
use Rattle.fs_model.specs.declared.step.Step.{Step}
use Rattle.fs_model.specs.Forms.{is_storing}
use Rattle.fs_model.specs.Operations.{access_of, accesses_of, accesses, steps_of}
use Rattle.fs_model.specs.Execution.{code_of, registers_of}
use Rattle.fs_model.specs.Values.{rounds}
use Rattle.fs_model.proofs.OptionalNumbers.{none_there}
use Rattle.fs_model.proofs.Counts.{one_if, one_if_le, count-cons}
use Rattle.fs_hart.proofs.Forward.{IsLater}
use Rattle.fs_values.proofs.FewStores.{stores}
use Rattle.fs_app_plain.specs.Instructions64.{does_branch, next_after}
use Rattle.fs_app_plain.specs.Wide.{Accesses, AreSteps, Runs, after_step, start_with, pre_execution}

-- ---- the next position is later

branched : (code : List Instr) (at target : ℕ) (b : Bool) → at < length code → IsLater code at target
    → IsLater code at (if b then target else at + 1)
branched code at target true l p = p
branched code at target false l p = (omega arith, omega arith)

following : (code : List Instr) (at : ℕ) → at < length code → IsLater code at (at + 1)
following code at l = (omega arith, omega arith)

goes : (code : List Instr) (at : ℕ) (x : List ℕ) (i : Instr) → at < length code
    → ((target : ℕ) → target_of i ≡ Some target → IsLater code at target)
    → IsLater code at (next_after x at i)
goes code at x (Register op rd first second) l f = following code at l
goes code at x (Immediate op rd first immediate) l f = following code at l
goes code at x (Shift op rd first amount) l f = following code at l
goes code at x (Lui rd upper) l f = following code at l
goes code at x (Li rd word) l f = following code at l
goes code at x (Lw ann rd base offset) l f = following code at l
goes code at x (Sw ann value base offset) l f = following code at l
goes code at x (Lr ann rd base) l f = following code at l
goes code at x (Sc ann rd value base) l f = following code at l
goes code at x (Amo op ann rd value base) l f = following code at l
goes code at x (Branch op first second target) l f =
    branched code at target (does_branch op (read x first) (read x second)) l (f target refl)
goes code at x (Jump target) l f = f target refl
goes code at x (Fence before after) l f = following code at l
goes code at x FenceTso l f = following code at l
goes code at x FenceI l f = following code at l

goes_on : (code : List Instr) (at : ℕ) (x : List ℕ) (i : Instr) → GoesForward code → slice_get code at ≡ Some i
    → at < next_after x at i
goes_on code at x i forward e =
    (goes code at x i (slice_get_within code at i e)
    (λ target f. let known : option_and_then target_of (slice_get code at) ≡ Some target = ap (option_and_then target_of) e ∙ f in forward at target known)).0

-- ---- one store for each instruction that stores

only_storing : (n : ℕ) (h : Hart) (s : Step) (i : Instr) → Accesses n h s i → is_some s.stored ≡ true
    → is_storing i ≡ true
only_storing n h s (Sw ann value base offset) a there = refl
only_storing n h s (Sc ann rd value base) a there = refl
only_storing n h s (Amo op ann rd value base) a there = refl
only_storing n h s _ a there = absurd (none_there s.stored a.2 there)

-- the number of instructions that store, from this position on
abbrev storing_from : ℕ → List Instr → ℕ
storing_from at code = count_by is_storing (drop at code)

-- from a later position on there are no more
fewer_later : (code : List Instr) (at later : ℕ) → at ≤ later → storing_from later code ≤ storing_from at code
fewer_later [] zero zero low = omega arith
fewer_later [] zero (suc later) low = omega arith
fewer_later [] (suc at) zero low = omega arith
fewer_later [] (suc at) (suc later) low = omega arith
fewer_later (i ∷ code) zero zero low = omega arith
fewer_later (i ∷ code) zero (suc later) low =
    let rest = fewer_later code zero later (omega arith) in
    let all = count-cons is_storing i code in
    omega (arith, rest, all)
fewer_later (i ∷ code) (suc at) zero low = absurd (omega (arith, low))
fewer_later (i ∷ code) (suc at) (suc later) low = fewer_later code at later (omega (arith, low))

-- past one that stores, one fewer
fewer_after : (code : List Instr) (at later : ℕ) (i : Instr) → slice_get code at ≡ Some i → at < later
    → one_if (is_storing i) + storing_from later code ≤ storing_from at code
fewer_after [] at later i e low = let none : None ≡ Some i = e in cc
fewer_after (j ∷ code) zero zero i e low = absurd (omega (arith, low))
fewer_after (j ∷ code) zero (suc later) i e low =
    let same : Some j ≡ Some i = e in
    let one : j ≡ i = cc in
    let rest = fewer_later code zero later (omega arith) in
    let all = count-cons is_storing j code in
    omega (arith, rest, all, ap (λ k. one_if (is_storing k)) one)
fewer_after (j ∷ code) (suc at) zero i e low = absurd (omega (arith, low))
fewer_after (j ∷ code) (suc at) (suc later) i e low = fewer_after code at later i e (omega (arith, low))

abbrev accesses_from : ℕ → ℕ → List Step → List Operation
accesses_from hart k steps =
    map (access_of hart) (filter (λ numbered. is_some numbered.1.address) (enumerate_from k steps))

one_step : (n : ℕ) (h : Hart) (hart k : ℕ) (s : Step) (ss : List Step) → Accesses n h s s.instr
    → count_by stores (accesses_from hart k (s ∷ ss)) ≤ one_if (is_storing s.instr) + count_by stores (accesses_from hart (k + 1) ss)
one_step n h hart k s ss access =
    by_case (is_some s.address) (filter (λ numbered. is_some numbered.1.address) (enumerate_from (k + 1) ss))
  where
    by_case : (b : Bool) (rest : List (ℕ × Step))
        → count_by stores (map (access_of hart) (cond b ((k, s) ∷ rest) rest)) ≤ one_if (is_storing s.instr) + count_by stores (map (access_of hart) rest)
    by_case true rest =
        let all = count-cons stores (access_of hart (k, s)) (map (access_of hart) rest) in
        let one = one_if_le (stores (access_of hart (k, s))) (is_storing s.instr) (only_storing n h s s.instr access) in
        omega (arith, all, one)
    by_case false rest = omega arith

few_from : (n : ℕ) (code : List Instr) (h : Hart) (hart k : ℕ) (steps : List Step) → GoesForward code
    → AreSteps n code h steps
    → count_by stores (accesses_from hart k steps) ≤ storing_from h.at code
few_from n code h hart k [] f r = omega arith
few_from n code h hart k (s ∷ steps) f r =
    let one = one_step n h hart k s steps r.0.2 in
    let next = goes_on code h.at h.registers s.instr f r.0.1 in
    let later = fewer_after code h.at (next_after h.registers h.at s.instr) s.instr r.0.1 next in
    let rest = few_from n code (after_step h s) hart (k + 1) steps f r.1 in
    omega (arith, one, later, rest)

few_of_harts : (first : ℕ) (traces : List (List Step)) (codes : List (List Instr)) → length traces ≡ length codes
    → ((hart k : ℕ) → k < length codes
    → count_by stores (accesses_of (hart, steps_of traces k)) ≤ count_by is_storing (slice_index_or codes k []))
    → count_by stores (flat_map accesses_of (enumerate_from first traces)) ≤ sum_by (count_by is_storing) codes
few_of_harts first [] codes e few = omega arith
few_of_harts first (steps ∷ traces) [] e few = absurd (omega (arith, e))
few_of_harts first (steps ∷ traces) (code ∷ codes) e few =
    let rest = few_of_harts (first + 1) traces codes (omega (arith, e))
    (λ hart k low. few hart (suc k) (omega (arith, low))) in
    let mine : count_by stores (accesses_of (first, steps)) ≤ count_by is_storing code = few first zero (omega arith) in
    let parts = ap (count_by stores) (flat_map-cons accesses_of (first, steps) (enumerate_from (first + 1) traces)) in
    let both = sum_by-append (λ o. cond (stores o) 1 0) (accesses_of (first, steps))
    (flat_map accesses_of (enumerate_from (first + 1) traces)) in
    let all = sum_by-cons (count_by is_storing) code codes in
    omega (arith, rest, mine, parts, both, all)

pub few_stores : (t : Test) (traces : List (List Step)) → ((k : ℕ) → k < length t.codes → GoesForward (code_of t k))
    → length traces ≡ length t.codes
    → ((hart : ℕ) → hart < length t.codes → Runs (length t.locations) (code_of t hart) (registers_of t hart) (steps_of traces hart))
    → count_by stores (accesses (pre_execution t traces)) ≤ rounds t
few_stores t traces forward same runs =
    few_of_harts 0 traces t.codes same (λ hart k low.
    few_from (length t.locations) (code_of t k) (start_with (registers_of t k)) hart 0 (steps_of traces k) (forward k low) (runs k low).0)
