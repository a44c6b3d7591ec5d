-- A witness has one verdict at most: of what may be said of it, the first that holds is the only one.
use Rattle.std.proofs.Common.{◌≡◌, ℕ, zero, suc, ◌<◌, ◌⊎◌, inl, inr, Bool, true, false, Some, option_map, unwrap_or, List, [], ◌∷◌, length, refl, sym, ◌∙◌, ap, subst, arith}
use Rattle.std.specs.Prelude.{All, if◌then◌else◌, slice_get}
use Rattle.std.specs.List.{list_any}
use Rattle.std.proofs.lemmas.Bool.{and_from, and_parts, both_ways, cases_order, eq-eqb, false≢true, lt-ltb, not-true, or_left, or_right}
use Rattle.std.proofs.lemmas.List.{ext_get_or}
use Rattle.fs_kinds.specs.declared.placement.Entry.{Entry}
use Rattle.fs_kinds.specs.declared.reason.OperationName.{OperationName as Name}
use Rattle.fs_kinds.specs.declared.reason.Reason.{Reason}
use Rattle.fs_kinds.specs.declared.reason.Reason.TheVariants as reason
use Rattle.fs_model.specs.declared.test.Test.{Test}
use Rattle.fs_model.specs.Test.{GoesForward}
use Rattle.fs_model.specs.declared.step.Step.{Step}
use Rattle.fs_model.specs.declared.step.Stop.{Stop}
use Rattle.fs_model.specs.declared.step.Stop.TheVariants.{Astray, BadChoice, BadSc, Long, Short}
use Rattle.fs_model.specs.Choices.{IsStopped}
use Rattle.fs_model.specs.Operations.{PreExecution, steps_of}
use Rattle.fs_model.specs.Source.{gmo, source_in}
use Rattle.fs_model.specs.Preserved.{Rule, all_rules, rule}
use Rattle.fs_model.specs.Execution.{Execution, pre_execution, code_of, registers_of, IsExecution}
use Rattle.fs_model.specs.Shows.{has_outcome}
use Rattle.fs_model.specs.Witness.{Witness, name_of, Chooses, IsOfWitness}
use Rattle.fs_model.specs.Reasons.{IsYes, IsReason, IsOrder, AreRuns, IsFirstStop, IsLeast, IsLeastPair, HaveNames, IsFirstWrongLoad, IsFirstBrokenRule, IsFirstBrokenPair, is_astray, is_earlier, choices_for, is_wrong_load, is_against_rule, is_against_atomicity, LoadsRightly, KeepsRules}
use Rattle.fs_model.proofs.Runs.{run_once}
use Rattle.fs_model.proofs.Stops.{whole_never_stops}
use Rattle.fs_model.proofs.OneStop.{stops_once}
use Rattle.fs_model_axioms.proofs.Axioms.{all_returning, pairs_atomic}
use Rattle.fs_check.specs.declared.order.OrderVerdict.{OrderVerdict}
use Rattle.fs_check.specs.declared.order.OrderVerdict.TheVariants.{Yes, No}
use Rattle.fs_check.specs.Verdicts.{IsVerdict, KeepsAtomicity}
use Rattle.fs_cand.proofs.NamedOrder.{names_say}
use Rattle.fs_cand.proofs.RunNames.{known}

-- ---- what holds of one verdict at most

abbrev IsOfOne : (OrderVerdict → Type 0) → Type 0
IsOfOne P = (v u : OrderVerdict) → P v → P u → v ≡ u

-- what comes first, or else what comes after where this is kept
abbrev FirstOr : (OrderVerdict → Type 0) → Type 0 → (OrderVerdict → Type 0) → OrderVerdict → Type 0
FirstOr First Kept After v = First v ⊎ (Kept × After v)

first_or_of_one : (First : OrderVerdict → Type 0) (Kept : Type 0) (After : OrderVerdict → Type 0) → IsOfOne First
    → ((v : OrderVerdict) → First v → Kept → ⊥) → IsOfOne After → IsOfOne (FirstOr First Kept After)
first_or_of_one First Kept After first apart after v u (inl p) (inl q) = first v u p q
first_or_of_one First Kept After first apart after v u (inl p) (inr q) = absurd (apart v p q.0)
first_or_of_one First Kept After first apart after v u (inr p) (inl q) = absurd (apart u q p.0)
first_or_of_one First Kept After first apart after v u (inr p) (inr q) = after v u p.1 q.1

-- ---- the first number, and the first pair, is one

one_least : (test : ℕ → Bool) (a b : ℕ) → IsLeast test a → IsLeast test b → a ≡ b
one_least test a b p q = elim (cases_order a b) [
  | inl same ↦ same
  | inr apart ↦ absurd (elim apart [
    | inl low ↦ both_ways _ (q.1 a low) p.0
    | inr high ↦ both_ways _ (p.1 b high) q.0
  ])
]

first_earlier : (a b c d : ℕ) → a < c → is_earlier a b c d ≡ true
first_earlier a b c d low = or_left _ _ (lt-ltb a c low)

second_earlier : (a b c d : ℕ) → a ≡ c → b < d → is_earlier a b c d ≡ true
second_earlier a b c d same low = or_right _ _ (and_from _ _ (eq-eqb a c same) (lt-ltb b d low))

earlier_or_same : (a b c d : ℕ) → ((a ≡ c) × (b ≡ d)) ⊎ ((is_earlier a b c d ≡ true) ⊎ (is_earlier c d a b ≡ true))
earlier_or_same a b c d = elim (cases_order a c) [
  | inr apart ↦ elim apart [
    | inl low ↦ inr (inl (first_earlier a b c d low))
    | inr high ↦ inr (inr (first_earlier c d a b high))
  ]
  | inl same ↦ elim (cases_order b d) [
    | inl both ↦ inl (same, both)
    | inr apart ↦ elim apart [
      | inl low ↦ inr (inl (second_earlier a b c d same low))
      | inr high ↦ inr (inr (second_earlier c d a b (sym same) high))
    ]
  ]
]

one_least_pair : (test : ℕ → ℕ → Bool) (a b c d : ℕ) → IsLeastPair test a b → IsLeastPair test c d → (a ≡ c) × (b ≡ d)
one_least_pair test a b c d p q = elim (earlier_or_same a b c d) [
  | inl same ↦ same
  | inr apart ↦ absurd (elim apart [
    | inl earlier ↦ both_ways _ (q.1 a b earlier) p.0
    | inr later ↦ both_ways _ (p.1 c d later) q.0
  ])
]

same_name : (x : PreExecution) (a b : ℕ) (n m : Name) → a ≡ b → name_of x a ≡ Some n → name_of x b ≡ Some m → n ≡ m
same_name x a b n m same e k = let both : Some n ≡ Some m = sym e ∙ ap (name_of x) same ∙ k in cc

-- ---- an order against the axioms

-- a case of a rule by its number is one of preserved program order
rule_of_all : (test : Rule → Bool) (rs : List Rule) (n : ℕ)
    → unwrap_or (option_map test (slice_get rs n)) false ≡ true → list_any test rs ≡ true
rule_of_all test [] n h = h
rule_of_all test (r ∷ rs) zero h = or_left _ _ h
rule_of_all test (r ∷ rs) (suc n) h = or_right _ _ (rule_of_all test rs n h)

module _ (t : Test) (p : List Entry) (e : Execution) where
  abbrev x : PreExecution
  x = pre_execution t e.traces

  record IsWrongLoad (v : OrderVerdict) : Type 0 where
    load : Name
    is : v ≡ No (reason.Load load)
    wrong : IsFirstWrongLoad x e.order load

  record IsRuleBroken (v : OrderVerdict) : Type 0 where
    n : ℕ
    first : Name
    second : Name
    is : v ≡ No (reason.Rule n first second)
    broken : IsFirstBrokenRule x p e.order n first second

  record IsAtomicityBroken (v : OrderVerdict) : Type 0 where
    load : Name
    store : Name
    is : v ≡ No (reason.Atomic load store)
    broken : IsFirstBrokenPair x e.order load store

  -- what the outcome says where all axioms hold
  abbrev IsOutcome : OrderVerdict → Type 0
  IsOutcome v = v ≡ (if has_outcome t e then Yes else No reason.Outcome)

  abbrev IsAtomicOr : OrderVerdict → Type 0
  IsAtomicOr = FirstOr IsAtomicityBroken (KeepsAtomicity x e.order) IsOutcome

  abbrev IsRuleOr : OrderVerdict → Type 0
  IsRuleOr = FirstOr IsRuleBroken (KeepsRules x p e.order) IsAtomicOr

  abbrev IsJudged : OrderVerdict → Type 0
  IsJudged = FirstOr IsWrongLoad (LoadsRightly x e.order) IsRuleOr

  one_wrong_load : IsOfOne IsWrongLoad
  one_wrong_load v u h k =
      let same = one_least (is_wrong_load x e.order) h.wrong.a k.wrong.a h.wrong.least k.wrong.least in
      let load = same_name x h.wrong.a k.wrong.a h.load k.load same h.wrong.named k.wrong.named in
      h.is ∙ ap (λ load. No (reason.Load load)) load ∙ sym k.is

  wrong_load_apart : (v : OrderVerdict) → IsWrongLoad v → LoadsRightly x e.order → ⊥
  wrong_load_apart v h loads =
      both_ways _ (not-true _ h.wrong.least.0) (all_returning x (source_in x e.order) loads h.wrong.a)

  same_rule : (v u : OrderVerdict) (h : IsRuleBroken v) (k : IsRuleBroken u) → h.n ≡ k.n
  same_rule v u h k = elim (cases_order h.n k.n) [
    | inl same ↦ same
    | inr apart ↦ absurd (elim apart [
      | inl low ↦ both_ways _ (k.broken.kept h.n low h.broken.a h.broken.b) h.broken.least.0
      | inr high ↦ both_ways _ (h.broken.kept k.n high k.broken.a k.broken.b) k.broken.least.0
    ])
  ]

  one_rule_broken : IsOfOne IsRuleBroken
  one_rule_broken v u h k =
      let n = same_rule v u h k in
      let former = h.broken in
      let latter = k.broken in
      let least = subst (λ n. IsLeastPair (is_against_rule x p e.order n) former.a former.b) n former.least in
      let same = one_least_pair (is_against_rule x p e.order k.n) former.a former.b latter.a latter.b least latter.least in
      let first = same_name x former.a latter.a h.first k.first same.0 former.first_named latter.first_named in
      let second = same_name x former.b latter.b h.second k.second same.1 former.second_named latter.second_named in
      h.is ∙ ap (λ n. No (reason.Rule n h.first h.second)) n ∙ ap (λ first. No (reason.Rule k.n first h.second)) first
      ∙ ap (λ second. No (reason.Rule k.n k.first second)) second ∙ sym k.is

  rule_not_kept : (n a b : ℕ) → is_against_rule x p e.order n a b ≡ true → KeepsRules x p e.order → ⊥
  rule_not_kept zero a b h kept = false≢true h
  rule_not_kept (suc n) a b h kept =
      let parts = and_parts _ _ h in
      both_ways _ (not-true _ parts.1) (kept a b (rule_of_all (rule x p (source_in x e.order) a b) all_rules n parts.0))

  rule_broken_apart : (v : OrderVerdict) → IsRuleBroken v → KeepsRules x p e.order → ⊥
  rule_broken_apart v h kept = rule_not_kept h.n h.broken.a h.broken.b h.broken.least.0 kept

  one_atomicity_broken : IsOfOne IsAtomicityBroken
  one_atomicity_broken v u h k =
      let former = h.broken in
      let latter = k.broken in
      let same = one_least_pair (is_against_atomicity x e.order) former.r former.w latter.r latter.w former.least latter.least in
      let load = same_name x former.r latter.r h.load k.load same.0 former.load_named latter.load_named in
      let store = same_name x former.w latter.w h.store k.store same.1 former.store_named latter.store_named in
      h.is ∙ ap (λ load. No (reason.Atomic load h.store)) load ∙ ap (λ store. No (reason.Atomic k.load store)) store ∙ sym k.is

  atomicity_broken_apart : (v : OrderVerdict) → IsAtomicityBroken v → KeepsAtomicity x e.order → ⊥
  atomicity_broken_apart v h kept =
      both_ways _ (not-true _ h.broken.least.0) (pairs_atomic x (source_in x e.order) (gmo x e.order) kept h.broken.r h.broken.w)

  one_judgement : IsOfOne IsJudged
  one_judgement =
      first_or_of_one IsWrongLoad (LoadsRightly x e.order) IsRuleOr one_wrong_load wrong_load_apart
      (first_or_of_one IsRuleBroken (KeepsRules x p e.order) IsAtomicOr one_rule_broken rule_broken_apart
      (first_or_of_one IsAtomicityBroken (KeepsAtomicity x e.order) IsOutcome one_atomicity_broken atomicity_broken_apart
      (λ v u h k. h ∙ sym k)))

-- ---- the runs of a witness, and their order

module _ (t : Test) (w : Witness) where
  never_both : (hart : ℕ) (stop : Stop) → IsFirstStop t w hart stop → (ss : List Step)
      → Chooses t hart (choices_for w hart) ss → ⊥
  never_both hart stop h ss whole =
      whole_never_stops (length t.locations) (code_of t hart) (registers_of t hart) (choices_for w hart) ss h.steps stop
      whole h.stopped

  same_traces : (traces others : List (List Step)) → AreRuns t w traces → AreRuns t w others → traces ≡ others
  same_traces traces others h k = ext_get_or [] traces others (h.harts ∙ sym k.harts) (λ hart low.
      let there : hart < length t.codes = omega (arith, low, h.harts) in
      run_once (length t.locations) (code_of t hart) (registers_of t hart) (choices_for w hart) _ _ (h.whole hart there)
      (k.whole hart there))

  pub same_execution : All GoesForward t.codes → (e f : Execution) → IsOrder t w e → IsOrder t w f → e ≡ f
  same_execution forward e f h k =
      let traces = same_traces e.traces f.traces h.runs k.runs in
      let names = subst (λ traces. HaveNames (pre_execution t traces) e.order w.order) traces h.names in
      let once = known t w f.traces k.runs forward in
      let order = names_say (pre_execution t f.traces) w.order e.order f.order once names k.names in
      ap (λ traces. record { traces = traces; order = e.order }) traces
      ∙ ap (λ order. record { traces = f.traces; order = order }) order

-- ---- all that is said of a witness

abbrev reason_at : ℕ → Stop → Reason
reason_at hart (Astray at) = reason.Astray hart at
reason_at hart stop = reason.Choices hart

choices_at : (hart : ℕ) (stop : Stop) → is_astray stop ≡ false → reason_at hart stop ≡ reason.Choices hart
choices_at hart (Astray at) h = absurd (false≢true (sym h))
choices_at hart Short h = refl
choices_at hart Long h = refl
choices_at hart BadChoice h = refl
choices_at hart BadSc h = refl

module _ (t : Test) (p : List Entry) (w : Witness) where
  record IsStop (v : OrderVerdict) : Type 0 where
    hart : ℕ
    stop : Stop
    is : v ≡ No (reason_at hart stop)
    first : IsFirstStop t w hart stop

  abbrev AreWhole : Type 0
  AreWhole = (traces : List (List Step)) × AreRuns t w traces

  record HasNoOrder (v : OrderVerdict) : Type 0 where
    is : v ≡ No reason.Order
    traces : List (List Step)
    runs : AreRuns t w traces
    none : (order : List ℕ) → IsOrder t w (record { traces = traces; order = order }) → ⊥

  abbrev IsOrdered : Type 0
  IsOrdered = (e : Execution) × IsOrder t w e

  abbrev IsOfOrder : OrderVerdict → Type 0
  IsOfOrder v = (e : Execution) × IsOrder t w e × IsJudged t p e v

  abbrev IsOrderOr : OrderVerdict → Type 0
  IsOrderOr = FirstOr HasNoOrder IsOrdered IsOfOrder

  abbrev IsSaid : OrderVerdict → Type 0
  IsSaid = FirstOr IsStop AreWhole IsOrderOr

  -- of two stops the one of the earlier hart is first
  same_hart : (v u : OrderVerdict) (h : IsStop v) (k : IsStop u) → h.hart ≡ k.hart
  same_hart v u h k = elim (cases_order h.hart k.hart) [
    | inl same ↦ same
    | inr apart ↦ absurd (elim apart [
      | inl low ↦ (let run = k.first.earlier h.hart low in never_both t w h.hart h.stop h.first run.0 run.1)
      | inr high ↦ (let run = h.first.earlier k.hart high in never_both t w k.hart k.stop k.first run.0 run.1)
    ])
  ]

  abbrev StopsSo : List Step → Stop → ℕ → Type 0
  StopsSo steps stop hart = IsStopped (length t.locations) (code_of t hart) (registers_of t hart) (choices_for w hart) steps stop

  one_stop : IsOfOne IsStop
  one_stop v u h k =
      let hart = same_hart v u h k in
      let stopped : StopsSo h.first.steps h.stop k.hart = subst (StopsSo h.first.steps h.stop) hart h.first.stopped in
      let once = stops_once (length t.locations) (code_of t k.hart) (registers_of t k.hart) (choices_for w k.hart)
      h.first.steps k.first.steps h.stop k.stop stopped k.first.stopped in
      h.is ∙ ap (λ hart. No (reason_at hart h.stop)) hart ∙ ap (λ stop. No (reason_at k.hart stop)) once.1 ∙ sym k.is

  stop_apart : (v : OrderVerdict) → IsStop v → AreWhole → ⊥
  stop_apart v h runs = never_both t w h.hart h.stop h.first (steps_of runs.0 h.hart) (runs.1.whole h.hart h.first.hart_of_test)

  one_without_order : IsOfOne HasNoOrder
  one_without_order v u h k = h.is ∙ sym k.is

  no_order_apart : (v : OrderVerdict) → HasNoOrder v → IsOrdered → ⊥
  no_order_apart v h ordered =
      let traces = same_traces t w ordered.0.traces h.traces ordered.1.runs h.runs in
      h.none ordered.0.order (subst (λ traces. IsOrder t w (record { traces = traces; order = ordered.0.order })) traces ordered.1)

  one_of_order : All GoesForward t.codes → IsOfOne IsOfOrder
  one_of_order forward v u h k =
      let same = same_execution t w forward h.0 k.0 h.1 k.1 in
      one_judgement t p k.0 v u (subst (λ e. IsJudged t p e v) same h.2) k.2

  one_said : All GoesForward t.codes → IsOfOne IsSaid
  one_said forward =
      first_or_of_one IsStop AreWhole IsOrderOr one_stop stop_apart
      (first_or_of_one HasNoOrder IsOrdered IsOfOrder one_without_order no_order_apart (one_of_order forward))

  of_order : (v : OrderVerdict) (e : Execution) → IsOrder t w e → IsJudged t p e v → IsSaid v
  of_order v e order judged = inr ((e.traces, order.runs), inr ((e, order), (e, order, judged)))

  -- an execution says whether it shows the outcome
  of_execution : (v : OrderVerdict) (e : Execution) → IsOrder t w e → IsExecution t p e → IsOutcome t p e v → IsSaid v
  of_execution v e order execution outcome =
      let axioms = execution.axioms in
      of_order v e order (inr (axioms.values, inr (axioms.preserved, inr (axioms.atomic, outcome))))

  pub order_of : (e : Execution) → IsOfWitness t w e → IsExecution t p e → IsOrder t w e
  order_of e of execution = record {
    runs = record { harts = of.harts; whole = of.runs };
    names = of.order;
    once = execution.axioms.once;
  }

  said : (v : OrderVerdict) → IsVerdict t p w v → IsSaid v
  said Yes (e, of, execution, shown) = of_execution Yes e (order_of e of execution) execution (rw shown refl)
  said (No (reason.Choices hart)) (stop, not_astray, first) =
      inl (record { hart = hart; stop = stop; is = ap (λ why. No why) (sym (choices_at hart stop not_astray)); first = first })
  said (No (reason.Astray hart at)) first = inl (record { hart = hart; stop = Astray at; is = refl; first = first })
  said (No reason.Order) (traces, runs, none) =
      inr ((traces, runs), inl (record { is = refl; traces = traces; runs = runs; none = none }))
  said (No (reason.Load load)) (e, order, wrong) =
      of_order (No (reason.Load load)) e order (inl (record { load = load; is = refl; wrong = wrong }))
  said (No (reason.Rule n first second)) (e, order, (loads, broken)) =
      of_order (No (reason.Rule n first second)) e order (inr (
        loads,
        inl (record { n = n; first = first; second = second; is = refl; broken = broken }),
      ))
  said (No (reason.Atomic load store)) (e, order, (loads, kept, broken)) =
      of_order (No (reason.Atomic load store)) e order (inr (
        loads,
        inr (kept, inl (record { load = load; store = store; is = refl; broken = broken })),
      ))
  said (No reason.Outcome) (e, order, execution, hidden) = of_execution (No reason.Outcome) e order execution (rw hidden refl)
  said (No reason.Answer) h = absurd h.2
  said (No reason.Cycles) h = absurd h.2
  said (No (reason.Cycle k)) h = absurd h.2
  said (No reason.Tree) h = absurd h.2
  said (No (reason.Node k)) h = absurd h.2
  said (No (reason.Witness k)) h = absurd h.2

  one_verdict : All GoesForward t.codes → IsOfOne (IsVerdict t p w)
  one_verdict forward v u h k = one_said forward v u (said v h) (said u k)

module _ (t : Test) (p : List Entry) (w : Witness) where
  pub no_reason_and_yes : (why : Reason) → All GoesForward t.codes → IsReason t p w why → IsYes t p w → ⊥
  no_reason_and_yes why forward against shown =
      let same : No why ≡ Yes = one_verdict t p w forward (No why) Yes against shown in cc

  pub one_reason : (why other : Reason) → All GoesForward t.codes → IsReason t p w why → IsReason t p w other → why ≡ other
  one_reason why other forward h k =
      let same : No why ≡ No other = one_verdict t p w forward (No why) (No other) h k in cc
