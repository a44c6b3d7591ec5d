-- Each load of an execution with 64 bits returns an extended word of its location's value set, where the test is exact
-- and no run over the value sets goes astray.
use Rattle.std.proofs.Common.{◌≡◌, ◌==◌, ◌&&◌, ℕ, zero, suc, ◌+◌, ◌-◌, ◌<◌, ◌≤◌, List, [], ◌∷◌, ◌++◌, length, map, get_or, Bool, true, Option, Some, None, is_some, option_map, refl, sym, ap, subst, ◌∙◌, inl, inr, arith}
use Rattle.std.specs.Prelude.{slice_get, unwrap_or}
use Rattle.std.specs.List.{list_any}
use Rattle.std.proofs.lemmas.Bool.{cases_lt, cases_eq, eq-eqb, eqb-true, ltb-true, both_ways, or_cases, or_left, or_right, and_parts, and_from, lt-ltb}
use Rattle.std.proofs.lemmas.Option.{slice_get-get_or}
use Rattle.std.proofs.Math.ListN.{get_or-append}
use Rattle.fs_kinds.specs.declared.placement.Entry.{Entry}
use Rattle.fs_instr.specs.Instructions.{address_of as address_role, data_of, sources_of, is_conditional}
use Rattle.fs_model.specs.Dependencies.{depends, address_depends}
use Rattle.fs_model.specs.Operations.{instr_at}
use Rattle.fs_model.specs.declared.test.Test.{Test}
use Rattle.fs_model.specs.Test.{IsTest, address_of}
use Rattle.fs_model.specs.declared.operation.Operation.{Operation}
use Rattle.fs_model.specs.declared.step.Step.{Step}
use Rattle.fs_model.specs.Numbers.{is_same, between}
use Rattle.fs_model.specs.Operations.{PreExecution, access_of, accesses, operation, nothing, steps_of, place, trace_of, is_load, is_store, po}
use Rattle.fs_model.specs.Source.{source_in}
use Rattle.fs_model.specs.Trace.{start_with}
use Rattle.fs_model.specs.Execution.{Execution, initial_words, code_of, registers_of}
use Rattle.fs_model.specs.Values.{LoadsOne, LoadsFrom, StoresWord, IsValueAfter, IsValue, rounds}
use Rattle.fs_model.proofs.OptionalNumbers.{one_value, not_none}
use Rattle.fs_model.proofs.HartOperations.{IsAccess, access_is}
use Rattle.fs_model.proofs.WhichOperation.{Access, Initial, Past, which, no_hart_past}
use Rattle.fs_deps.proofs.Between.{any_between_from}
use Rattle.fs_hart.proofs.Along.{code_forward}
use Rattle.fs_values.specs.ThinAir.{rests_on, rests, NeverAstray}
use Rattle.fs_values.proofs.Steps.{operation_of}
use Rattle.fs_values.proofs.Counting.{at_rest, count_numbers, total}
use Rattle.fs_values.proofs.FewStores.{stores}
use Rattle.fs_values.proofs.Levels.{settled, settled_grows, settled_at_once, settled_start, settled_more, settled_parts}
use Rattle.fs_app_plain.specs.Instructions64.{extended}
use Rattle.fs_app_plain.specs.Wide as wide
use Rattle.fs_app_plain.specs.Wide.{pre_execution, IsWideExecution, IsExactTest, extended_step}
use Rattle.fs_app_plain.proofs.Given.{WordLaws}
use Rattle.fs_app_plain.proofs.BackFewStores.{few_stores}
use Rattle.fs_app_plain.proofs.BackKept.{ExtendedFrom, store_kept}
use Rattle.fs_app_plain.proofs.BackRuns.{narrow_from, completed, each_exact, stores_first, initial_of, start_words, code_of_table, value_small}
use Rattle.fs_app_plain.proofs.BackSources.{run_of, loaded_from, no_cycle}

-- a step rests on earlier steps and itself
rests_near : (steps : List Step) (j i : ℕ) → rests_on steps j i ≡ true → i ≤ j
rests_near steps j i h = elim (or_cases _ _ h) [
  | inl e ↦ (let same = eqb-true i j e in omega (arith, same))
  | inr h1 ↦ elim (or_cases _ _ h1) [
    | inl d ↦ near (address_role (instr_at steps j)) d
    | inr h2 ↦ elim (or_cases _ _ h2) [
      | inl d ↦ near (data_of (instr_at steps j)) d
      | inr h3 ↦ elim (or_cases _ _ h3) [
        | inl c ↦ far (λ m. is_conditional (instr_at steps m) && list_any (depends steps i m) (sources_of (instr_at steps m))) c
        | inr c ↦ far (address_depends steps i) c
      ]
    ]
  ]
]
  where
    near : (r : Option ℕ) → depends steps i j r ≡ true → i ≤ j
    near r d = let low = ltb-true i j (and_parts _ _ d).0 in omega (arith, low)

    far : (test : ℕ → Bool) → list_any test (between i j) ≡ true → i ≤ j
    far test c = let m = any_between_from test i j c in let low = m.1 in let high = m.2 in omega (arith, low, high)

module _ (t : Test) where
  value_up : (m n k w : ℕ) → IsValueAfter t m k w → IsValueAfter t (m + n) k w
  value_up m zero k w v = subst (λ q. IsValueAfter t q k w) (let q : m ≡ m + 0 = omega arith in q) v
  value_up m (suc n) k w v =
      let next : IsValueAfter t (suc (m + n)) k w = inl (value_up m n k w v) in
      subst (λ q. IsValueAfter t q k w) (let q : suc (m + n) ≡ m + suc n = omega arith in q) next

  pub value_at : (m n k w : ℕ) → m ≤ n → IsValueAfter t m k w → IsValueAfter t n k w
  value_at m n k w low v =
      subst (λ q. IsValueAfter t q k w) (let q : m + (n - m) ≡ n = omega (arith, low) in q) (value_up m (n - m) k w v)

-- a store of extended steps is that of the steps, extended
store_back : (us : List Step) (k w : ℕ) → StoresWord (map extended_step us) k w
    → (v : ℕ) × StoresWord us k v × (w ≡ extended v)
store_back [] k w none = absurd none
store_back (u ∷ us) k w (inl here) = by_store u.stored refl
  where
    by_store : (o : Option ℕ) → u.stored ≡ o → (v : ℕ) × StoresWord (u ∷ us) k v × (w ≡ extended v)
    by_store None q = absurd (let both : None ≡ Some w = ap (option_map extended) (sym q) ∙ here.1 in cc)
    by_store (Some v) q =
        let both : Some (extended v) ≡ Some w = ap (option_map extended) (sym q) ∙ here.1 in
        let same : w ≡ extended v = cc in
        (v, inl (here.0, q), same)
store_back (u ∷ us) k w (inr later) = let rest = store_back us k w later in (rest.0, inr rest.1, rest.2)

mapped_back : (f : ℕ → ℕ) (xs : List ℕ) (j w : ℕ) → slice_get (map f xs) j ≡ Some w
    → (v : ℕ) × (slice_get xs j ≡ Some v) × (w ≡ f v)
mapped_back f [] j w e = absurd (let none : None ≡ Some w = e in cc)
mapped_back f (x ∷ xs) zero w e = (x, refl, (let both : Some (f x) ≡ Some w = e in cc))
mapped_back f (x ∷ xs) (suc j) w e = mapped_back f xs j w e

module _ (laws : WordLaws) (t : Test) (is_test : IsTest t) (never : NeverAstray t) (exact : IsExactTest t) where
  -- a store of 64 bits whose loads take extended words of one round stores one of the next
  round_more : (m : ℕ) → m ≤ rounds t → (hart : ℕ) → hart < length t.codes → (steps : List Step)
      → wide.Runs (length t.locations) (code_of t hart) (registers_of t hart) steps
      → (j : ℕ) (s : Step) → slice_get steps j ≡ Some s
      → ((i : ℕ) (u : Step) → rests_on steps j i ≡ true → slice_get steps i ≡ Some u → LoadsOne (ExtendedFrom (IsValueAfter t m)) u)
      → (k w : ℕ) → s.address ≡ Some (address_of k) → s.stored ≡ Some w → ExtendedFrom (IsValueAfter t (suc m)) k w
  round_more m low hart of_test steps r j s at loads k w address stored =
      let V = IsValueAfter t m in
      let n = length t.locations in
      let code = code_of t hart in
      let start = start_with (registers_of t hart) in
      let initial = initial_of t is_test.words V (λ k w v. value_at t 0 m k w (omega arith) v) in
      let none = never m hart low of_test in
      let kept = store_kept laws n code (initial_words t) V initial steps j s at (ap is_some stored)
      (λ i u near on there. loads i u on there) (wide.start_with (registers_of t hart)) r.0 in
      let narrow = narrow_from laws n is_test.bounded.locations code (code_of_table t is_test hart of_test) V
      (value_small laws t is_test m) start kept.run (start_words t is_test hart of_test) (λ a e. absurd (not_none None a refl e))
      (each_exact t is_test.bounded V initial hart of_test none exact (λ k w v. value_at t m (rounds t) k w low v)) kept.made kept.takes in
      let all = completed t is_test.bounded V initial hart of_test none narrow.run narrow.made narrow.takes in
      let store = store_back narrow.run k w
      (subst (λ us. StoresWord us k w) (sym narrow.same) (kept.store k w address stored)) in
      let stores = stores_first narrow.run all.more k store.0 store.1 in
      (store.0, inr (hart, narrow.run ++ all.more, of_test, all.whole, all.takes, stores), store.2)

  module _ (p : List Entry) (e : Execution) (is_execution : IsWideExecution t p e) where
    abbrev x : PreExecution
    x = pre_execution t e.traces

    abbrev rf : ℕ → Option ℕ
    rf = source_in x e.order

    initial_value : (s k w : ℕ) → length (accesses x) ≤ s → (operation x s).address ≡ Some (address_of k)
        → (operation x s).stored ≡ Some w
        → ExtendedFrom (IsValueAfter t 0) k w
    initial_value s k w past address stored = elim (which x s) [
      | Access low ↦ absurd (omega (arith, low, past))
      | Initial j low at is ↦ (
          let places = one_value (operation x s).address (address_of j) (address_of k)
          (ap (λ (o : Operation). o.address) is) address in
          let number : j ≡ k = omega (arith, places) in
          let word = one_value (operation x s).stored (get_or x.words j 0) w
          (ap (λ (o : Operation). o.stored) is) stored in
          mapped_back extended (initial_words t) k w
          (ap (slice_get x.words) (sym number) ∙ slice_get-get_or x.words j 0 low ∙ ap (λ v. Some v) word))
      | Past far is ↦ absurd (not_none (operation x s).stored w (ap (λ (o : Operation). o.stored) is) stored)
    ]

    -- a load on which the step of a store rests is an operation on which the store rests
    at_operation : {P : Type 0} (s : ℕ) (f : IsAccess x s) (i : ℕ) (u : Step) → i ≤ place x s
        → rests_on (steps_of e.traces f.hart) (place x s) i ≡ true → slice_get (steps_of e.traces f.hart) i ≡ Some u
        → is_some u.address ≡ true → is_some u.loaded ≡ true → s < length (accesses x)
        → ((b : ℕ) → b < length (accesses x) → rests x s b ≡ true → operation x b ≡ access_of f.hart (i, u) → P) → P
    at_operation s f i u near on there does loads inside take = elim (cases_eq i (place x s)) [
      | inl here ↦ (
          let both : Some u ≡ Some f.step = sym there ∙ ap (slice_get (steps_of e.traces f.hart)) here ∙ f.there in
          let one : u ≡ f.step = cc in
          let same : operation x s ≡ access_of f.hart (i, u) =
          f.is ∙ ap (λ k. access_of f.hart (k, f.step)) (sym here) ∙ ap (λ v. access_of f.hart (i, v)) (sym one) in
          let load : is_load x s ≡ true = ap (λ (o : Operation). is_some o.loaded) same ∙ loads in
          take s inside (and_from _ _ load (or_left _ _ (eq-eqb s s refl))) same)
      | inr other ↦ (
          let op = operation_of x f.hart i u f.low there does in
          let load : is_load x op.0 ≡ true = ap (λ (o : Operation). is_some o.loaded) op.2 ∙ loads in
          let hart : is_same (operation x op.0).hart (operation x s).hart ≡ true =
          ap (λ (o : Operation). is_same o.hart (operation x s).hart) op.2 ∙ ap (λ (o : Operation). is_same (Some f.hart) o.hart) f.is
          ∙ eq-eqb f.hart f.hart refl in
          let first : place x op.0 ≡ i = ap (λ (o : Operation). o.place) op.2 in
          let trace : trace_of x s ≡ steps_of e.traces f.hart =
          ap (λ (o : Operation). unwrap_or (option_map (steps_of e.traces) o.hart) []) f.is in
          let before : po x op.0 s ≡ true =
          and_from _ _ hart (lt-ltb (place x op.0) (place x s) (omega (arith, near, other, first))) in
          let rest : rests_on (trace_of x s) (place x s) (place x op.0) ≡ true =
          ap (λ ss. rests_on ss (place x s) (place x op.0)) trace
          ∙ ap (rests_on (steps_of e.traces f.hart) (place x s)) first ∙ on in
          take op.0 op.1 (and_from _ _ load (or_right (op.0 == s) _ (and_from _ _ before rest))) op.2)
    ]

    extended_at : (m n k w : ℕ) → m ≤ n → ExtendedFrom (IsValueAfter t m) k w → ExtendedFrom (IsValueAfter t n) k w
    extended_at m n k w low v = (v.0, value_at t m n k v.0 low v.1, v.2)

    -- the word of a settled store is an extended value
    settled_value : (n : ℕ) → n ≤ rounds t → (s k w : ℕ) → settled x rf n s ≡ true
        → (operation x s).address ≡ Some (address_of k)
        → (operation x s).stored ≡ Some w → ExtendedFrom (IsValueAfter t n) k w
    settled_value zero low s k w h address stored = elim (cases_lt s (length (accesses x))) [
      | inl inside ↦ (
          let f = access_is x s inside in
          absurd (both_ways (is_some (operation x s).hart) (settled_start x rf s h) (ap (λ (o : Operation). is_some o.hart) f.is)))
      | inr past ↦ initial_value s k w past address stored
    ]
    settled_value (suc n) low s k w h address stored = elim (settled_parts x rf n s h) [
      | inl before ↦ extended_at n (suc n) k w (omega arith) (settled_value n (omega (arith, low)) s k w before address stored)
      | inr all ↦ elim (cases_lt s (length (accesses x))) [
        | inr past ↦ extended_at 0 (suc n) k w (omega arith) (initial_value s k w past address stored)
        | inl inside ↦ (
            let f = access_is x s inside in
            let run = run_of t p e is_execution f.hart f.low in
            round_more n (omega (arith, low)) f.hart run.0 (steps_of e.traces f.hart) run.1 (place x s) f.step f.there
            (λ i u is there k' w' a l.
            let value : (b : ℕ) → b < length (accesses x) → rests x s b ≡ true → operation x b ≡ access_of f.hart (i, u)
            → ExtendedFrom (IsValueAfter t n) k' w' = λ b inside' on same.
            let from = loaded_from t p e is_execution b w' (ap (λ (o : Operation). o.loaded) same ∙ l) in
            settled_value n (omega (arith, low)) from.0 k' w' (all b from.0 inside' on from.1)
            (from.3 ∙ ap (λ (o : Operation). o.address) same ∙ a) from.2 in
            at_operation s f i u (rests_near (steps_of e.traces f.hart) (place x s) i is) is there (ap is_some a) (ap is_some l) inside value)
            k w (ap (λ (o : Operation). o.address) (sym f.is) ∙ address) (ap (λ (o : Operation). o.stored) (sym f.is) ∙ stored))
      ]
    ]

    rest : (k : ℕ) × (k ≤ total (length (accesses x)) (is_store x) (settled x rf) (settled_grows x rf)) × ((a : ℕ) → a < length (accesses x)
        → is_store x a ≡ true → settled x rf (suc k) a ≡ true → settled x rf k a ≡ true)
    rest = at_rest (length (accesses x)) (is_store x) (settled x rf) (settled_grows x rf)

    few : rest.0 ≤ rounds t
    few =
        let count = count_numbers (is_store x) stores nothing 0 (accesses x) (λ i low.
        ap (is_store x) (let q : 0 + i ≡ i = omega arith in q)
        ∙ ap (λ (o : Operation). is_some o.stored) (get_or-append (accesses x) _ nothing i low)) in
        let most = few_stores t e.traces
        (λ k low. code_forward t k is_test.bounded.forward low) is_execution.harts is_execution.runs in
        let level = rest.1 in
        omega (arith, level, count, most)

    all_settled : (s : ℕ) → is_store x s ≡ true → settled x rf rest.0 s ≡ true
    all_settled =
        no_cycle t p e is_execution (λ s. settled x rf rest.0 s ≡ true) (λ s store h. elim (cases_lt s (length (accesses x))) [
          | inl low ↦ rest.2 s low store (settled_more x rf rest.0 s h)
          | inr past ↦ settled_at_once x rf rest.0 s (no_hart_past x s past)
        ])

    -- each load takes an extended value
    pub grounded : (hart : ℕ) → hart < length t.codes → LoadsFrom (ExtendedFrom (IsValue t)) (steps_of e.traces hart)
    grounded hart low i d inside k w address loaded =
        let steps = steps_of e.traces hart in
        let same = is_execution.harts in
        let here : slice_get steps i ≡ Some (get_or steps i d) = slice_get-get_or steps i d inside in
        let op = operation_of x hart i (get_or steps i d) (omega (arith, low, same)) here (ap is_some address) in
        let from = loaded_from t p e is_execution op.0 w (ap (λ (o : Operation). o.loaded) op.2 ∙ loaded) in
        let value = settled_value rest.0 few from.0 k w (all_settled from.0 (ap is_some from.2))
        (from.3 ∙ ap (λ (o : Operation). o.address) op.2 ∙ address) from.2 in
        extended_at rest.0 (rounds t) k w few value
