-- Names of operations.
use Rattle.std.proofs.Common.{◌≡◌, ℕ, zero, suc, ◌+◌, ◌<◌, ◌⊎◌, true, false, inl, inr, Option, None, Some, is_some, option_map, unwrap_or, List, [], length, filter, refl, sym, ◌∙◌, ap, subst, arith}
use Rattle.std.specs.Prelude.{All, ◌==◌, slice_get}
use Rattle.std.specs.List.{Contains, enumerate_from, range_with_len, slice_index_or}
use Rattle.std.proofs.lemmas.Bool.{cases_lt, cases_Bool, false≢true, and_parts, and_from, eqb-true, eq-eqb}
use Rattle.std.proofs.lemmas.List.Elements.{All-get_or}
use Rattle.std.proofs.lemmas.Option.{slice_get_within}
use Rattle.fs_kinds.specs.declared.reason.OperationName.{OperationName as Name}
use Rattle.fs_instr.specs.declared.instr.Instr.{Instr}
use Rattle.fs_instr.specs.declared.instr.Instr.TheVariants.{Lw, Sw, Lr, Sc, Amo}
use Rattle.fs_instr.specs.Instructions.{is_memory}
use Rattle.fs_model.specs.declared.test.Test.{Test}
use Rattle.fs_model.specs.Slots.{is_memory_at}
use Rattle.fs_model.specs.Test.{GoesForward}
use Rattle.fs_model.specs.declared.hart.Hart.{Hart}
use Rattle.fs_model.specs.declared.step.Step.{Step}
use Rattle.fs_model.specs.Numbers.{numbers_below}
use Rattle.fs_model.specs.Operations.{PreExecution, accesses, place, steps_of}
use Rattle.fs_model.specs.Execution.{code_of, registers_of}
use Rattle.fs_model.specs.Trace.{Accesses, IsStep}
use Rattle.fs_model.specs.Witness.{name_of}
use Rattle.fs_model.proofs.OptionalNumbers.{none_there}
use Rattle.fs_model.proofs.RunLocations.{made_at}
use Rattle.fs_model.proofs.WhichOperation.{hart_access, of_hart}
use Rattle.fs_cert_evidence.specs.Candidates.{Candidate, IsRaw, runs_of}
use Rattle.fs_verdict_laws.proofs.Sourced.{are_runs}
use Rattle.fs_cand.proofs.Distinct.{one_named, named}
use Rattle.fs_cand.proofs.Distinct as distinct
use Rattle.fs_values.proofs.Contained.{in_map, in_parts}
use Rattle.fs_cert_evidence.specs.Regions.{same_name, names_in, names}
use Rattle.fs_verdict_laws.proofs.Lists.{in_filter, in_numbered}

-- ---- names that are the same

made : ℕ → ℕ → Name
made h i = record { hart = h; at = i }

same_numbers : (h k i j : ℕ) → h ≡ k → i ≡ j → made h i ≡ made k j
same_numbers h k i j e f = rw (e, f) refl

pub name_is : (m n : Name) → same_name m n ≡ true → m ≡ n
unfolding made
name_is m n e =
    let parts = and_parts (m.hart == n.hart) (m.at == n.at) e in
    same_numbers m.hart n.hart m.at n.at (eqb-true m.hart n.hart parts.0) (eqb-true m.at n.at parts.1)

pub is_itself : (m n : Name) → m ≡ n → same_name m n ≡ true
is_itself m n e = and_from _ _ (eq-eqb m.hart n.hart (ap (λ (x : Name). x.hart) e)) (eq-eqb m.at n.at (ap (λ (x : Name). x.at) e))

-- ---- a name is that of one operation

pub runs_forward : (t : Test) (c : Candidate) → All GoesForward t.codes → IsRaw t c → distinct.AreRuns c.traces
runs_forward t c forward raw hart low =
    let harts = raw.runs.harts in
    let less : hart < length t.codes = omega (arith, low, harts) in (
      length t.locations,
      registers_of t hart,
      code_of t hart,
      All-get_or GoesForward t.codes hart [] less forward,
      (raw.runs.runs hart less).0,
    )

pub once : (t : Test) (c : Candidate) → All GoesForward t.codes → IsRaw t c → (a b : ℕ) (name : Name) → name_of (runs_of t c) a ≡ Some name
    → name_of (runs_of t c) b ≡ Some name → a ≡ b
once t c forward raw a b name e k = one_named (runs_of t c) a b name (runs_forward t c forward raw) e k

pub names_differ : (x : PreExecution) (a b : ℕ) (m n : Name) → name_of x a ≡ Some m → name_of x b ≡ Some n → (m ≡ n → ⊥) → a ≡ b → ⊥
names_differ x a b m n e k apart same = apart (let both : Some m ≡ Some n = sym e ∙ ap (name_of x) same ∙ k in cc)

-- what has a name is an operation of a hart
pub name_low : (x : PreExecution) (a : ℕ) (name : Name) → name_of x a ≡ Some name → a < length (accesses x)
name_low x a name e = hart_access x a name.hart (named x a name e).hart

same_or_not : (m n : Name) → (m ≡ n) ⊎ (m ≡ n → ⊥)
same_or_not m n = elim (cases_Bool (same_name m n)) [
  | inl it ↦ inl (name_is m n it)
  | inr other ↦ inr (λ e. false≢true (sym other ∙ is_itself m n e))
]

decide_name : (x : PreExecution) (a : ℕ) (name : Name) → (name_of x a ≡ Some name) ⊎ (name_of x a ≡ Some name → ⊥)
decide_name x a name = by_name (name_of x a) refl
  where
    by_name : (o : Option Name) → name_of x a ≡ o → (name_of x a ≡ Some name) ⊎ (name_of x a ≡ Some name → ⊥)
    by_name None e = inr (λ k. let none : None ≡ Some name = sym e ∙ k in cc)
    by_name (Some other) e = elim (same_or_not other name) [
      | inl same ↦ inl (e ∙ ap Some same)
      | inr apart ↦ inr (λ k. let both : Some other ≡ Some name = sym e ∙ k in apart (cc))
    ]

-- some operation below n has the name, or none
named_below : (x : PreExecution) (name : Name) (n : ℕ) → ((a : ℕ) × (name_of x a ≡ Some name)) ⊎ ((a : ℕ) → a < n → name_of x a ≡ Some name → ⊥)
named_below x name zero = inr (λ a low e. omega (arith, low))
named_below x name (suc n) = elim (named_below x name n) [
  | inl there ↦ inl there
  | inr none ↦ elim (decide_name x n name) [
    | inl here ↦ inl (n, here)
    | inr other ↦ inr (λ a low e. elim (cases_lt a n) [
      | inl less ↦ none a less e
      | inr past ↦ other (subst (λ (z : ℕ). name_of x z ≡ Some name) (omega (arith, low, past)) e)
    ])
  ]
]

-- an operation has the name, or none has
pub named_or_none : (x : PreExecution) (name : Name) → ((a : ℕ) × (name_of x a ≡ Some name)) ⊎ ((a : ℕ) → name_of x a ≡ Some name → ⊥)
named_or_none x name = elim (named_below x name (length (accesses x))) [
  | inl there ↦ inl there
  | inr none ↦ inr (λ a e. none a (name_low x a name e) e)
]

-- ---- the name of each operation is one of the test

-- only a memory instruction accesses memory
only_memory : (n : ℕ) (h : Hart) (s : Step) (i : Instr) → Accesses n h s i → is_some s.address ≡ true → is_memory i ≡ true
only_memory n h s (Lw ann rd base offset) a there = refl
only_memory n h s (Sw ann value base offset) a there = refl
only_memory n h s (Lr ann rd base) a there = refl
only_memory n h s (Sc ann rd value base) a there = refl
only_memory n h s (Amo op ann rd value base) a there = refl
only_memory n h s _ a there = absurd (none_there s.address a.0 there)

memory_at : (code : List Instr) (at : ℕ) (i : Instr) → slice_get code at ≡ Some i → is_memory i ≡ true → is_memory_at code at ≡ true
memory_at code at i e memory = ap (λ o. unwrap_or (option_map is_memory o) false) e ∙ memory

in_range : (a n k : ℕ) → k < n → Contains (range_with_len a n) (a + k)
in_range a zero k low = absurd (omega (arith, low))
in_range a (suc n) zero low = (0, omega arith, omega arith)
in_range a (suc n) (suc k) low =
    let rest = in_range (a + 1) n k (omega (arith, low)) in
    let less = rest.1 in
    (suc rest.0, omega (arith, less), subst (λ m. slice_index_or (range_with_len (a + 1) n) rest.0 m ≡ m) (omega arith) rest.2)

pub number_in : (n k : ℕ) → k < n → Contains (numbers_below n) k
number_in n k low = subst (Contains (numbers_below n)) (omega arith) (in_range 0 n k low)

-- the steps of a hart's run are of its code
pub record IsOfTest (t : Test) (c : Candidate) (name : Name) (step : Step) : Type 0 where
  pub hart : name.hart < length t.codes
  pub state : Hart
  pub made : IsStep (length t.locations) (code_of t name.hart) state step

module _ (t : Test) (c : Candidate) (raw : IsRaw t c) where
  pub step_made : (hart k : ℕ) (s : Step) → hart < length c.traces → slice_get (steps_of c.traces hart) k ≡ Some s
      → (h : Hart) × IsStep (length t.locations) (code_of t hart) h s
  step_made hart k s low there = let made = made_at t c.traces (are_runs t c raw) hart k s low there in (made.0, made.1)

  pub hart_low : (a : ℕ) (name : Name) → name_of (runs_of t c) a ≡ Some name → name.hart < length t.codes
  hart_low a name e =
      let of = of_hart (runs_of t c) a name.hart (named (runs_of t c) a name e).hart in
      let low = of.traced in
      let harts = raw.runs.harts in
      omega (arith, low, harts)

  pub name_there : (a : ℕ) (name : Name) → name_of (runs_of t c) a ≡ Some name → Contains (names t) name
  name_there a name e =
      let is = named (runs_of t c) a name e in
      let of = of_hart (runs_of t c) a name.hart is.hart in
      let step = is.step in
      let made = step_made name.hart (place (runs_of t c) a) of.step of.traced of.there in
      let one : of.step ≡ step.0 = (let both : Some of.step ≡ Some step.0 = sym of.there ∙ step.1 in cc) in
      let at : name.at ≡ made.0.at = sym step.2 ∙ sym (ap (λ (s : Step). s.at) one) ∙ made.1.0 in
      let low = hart_low a name e in
      let memory : is_memory_at (code_of t name.hart) name.at ≡ true = subst (λ (k : ℕ). is_memory_at (code_of t name.hart) k ≡ true) (sym at)
      (memory_at (code_of t name.hart) made.0.at of.step.instr made.1.1 (only_memory (length t.locations) made.0 of.step of.step.instr made.1.2 of.accessing)) in
      let small : name.at < length (code_of t name.hart) = (let less = slice_get_within (code_of t name.hart) made.0.at of.step.instr made.1.1 in omega (arith, less, at)) in
      in_parts names_in (enumerate_from 0 t.codes) (name.hart, code_of t name.hart) name
      (subst (λ (k : ℕ). Contains (enumerate_from 0 t.codes) (k, code_of t name.hart)) (omega arith) (in_numbered 0 t.codes name.hart [] low))
      (in_map (λ at. record { hart = name.hart; at = at }) (filter (is_memory_at (code_of t name.hart)) (numbers_below (length (code_of t name.hart)))) name.at
      (in_filter (is_memory_at (code_of t name.hart)) (numbers_below (length (code_of t name.hart))) name.at (number_in (length (code_of t name.hart)) name.at small) memory))
