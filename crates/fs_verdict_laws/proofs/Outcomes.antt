-- What holds of a candidate may hold in its regions.
use Rattle.std.proofs.Common.{◌≡◌, ℕ, ◌<◌, ◌≤◌, ◌==◌, Bool, true, false, ◌&&◌, not, Option, None, Some, option_and_then, unwrap_or, List, [], ◌∷◌, length, inl, inr, refl, sym, ◌∙◌, ap, subst, arith}
use Rattle.std.specs.Prelude.{All, slice_get}
use Rattle.std.specs.List.{last_or, list_any}
use Rattle.std.proofs.lemmas.Bool.{and_parts, and_from, and_cases, or_cases, or_left, or_right, or_parts}
use Rattle.std.proofs.lemmas.Option.{slice_get-get_or}
use Rattle.fs_kinds.specs.declared.reason.OperationName.{OperationName as Name}
use Rattle.fs_model.specs.declared.test.Test.{Test}
use Rattle.fs_model.specs.Condition.{Condition, Always, Never, RegisterIs, LocationIs, Deny, Both, Either, SpeaksOf}
use Rattle.fs_model.specs.Test.{GoesForward, address_of}
use Rattle.fs_model.specs.declared.step.Step.{Step}
use Rattle.fs_model.specs.Execute.{read}
use Rattle.fs_model.specs.Operations.{accesses, operation, steps_of}
use Rattle.fs_model.specs.Execution.{initial_words, registers_of}
use Rattle.fs_model.specs.Trace.{start_with, hart_after}
use Rattle.fs_model.specs.Shows.{is_store_to, final_register}
use Rattle.fs_model.specs.Witness.{name_of}
use Rattle.fs_model.proofs.HartOperations.{has_name}
use Rattle.fs_model.proofs.LastNumber.{last_in}
use Rattle.fs_model.proofs.OptionalNumbers.{same_from, some_parts}
use Rattle.fs_model.proofs.WhichOperation.{Access, Initial, Past, which}
use Rattle.fs_cert_evidence.specs.Candidates.{Candidate, IsRaw, runs_of, co, stores_to, last_word}
use Rattle.fs_verdict_laws.proofs.JudgedEdges.{edge_low}
use Rattle.fs_verdict_laws.proofs.Rules.{judged_co}
use Rattle.fs_verdict_laws.proofs.Sourced.{stores_first, stores_in, store_to_parts, store_to_from, same_location}
use Rattle.fs_cert_evidence.specs.Regions.{Region, In, names, truth, stored_at}
use Rattle.fs_cert_evidence.specs.Musts.{must_be, passes, stores_such, may_end, has_truth, may, traces_of}
use Rattle.fs_verdict_laws.proofs.Lists.{any_in, any_from}
use Rattle.fs_verdict_laws.proofs.Names.{name_there, name_low, hart_low, once}
use Rattle.fs_verdict_laws.proofs.Runs.{done}
use Rattle.fs_verdict_laws.proofs.Alone.{own_steps, not_true}
use Rattle.fs_verdict_laws.proofs.Coherent.{up_to_last, last_before_none}
use Rattle.fs_verdict_laws.proofs.Edges.{accesses_there, stores_there}

last_some : (x : ℕ) (xs : List ℕ) → (a : ℕ) × (last_or (Some x) xs ≡ Some a)
last_some x [] = (x, refl)
last_some x (y ∷ ys) = last_some y ys

last_there : (xs : List ℕ) (a : ℕ) → slice_get xs 0 ≡ Some a → (b : ℕ) × (last_or None xs ≡ Some b)
last_there [] a e = absurd (let none : None ≡ Some a = e in cc)
last_there (x ∷ xs) a e = last_some x xs

truth_is : (v b : Bool) → b ≡ v → has_truth v b ≡ true
truth_is true b e = e
truth_is false b e = ap not e

pub not_is : (b v : Bool) → not b ≡ v → b ≡ not v
not_is true v e = ap not e
not_is false v e = ap not e

module _ (t : Test) (c : Candidate) (forward : All GoesForward t.codes) (raw : IsRaw t c) (region : Region) (inside : In t c region) where
  -- ---- last words

  module _ (k : ℕ) (test : ℕ → Bool) (low : k < length t.locations) (a : ℕ) (last : last_or None (stores_to c k) ≡ Some a) where
    stores : is_store_to (runs_of t c) k a ≡ true
    stores = stores_in t c raw k a low (last_in (stores_to c k) a last)

    word_is : last_word t c k ≡ unwrap_or (operation (runs_of t c) a).stored 0
    word_is = ap (λ (o : Option ℕ). unwrap_or (option_and_then (λ b. (operation (runs_of t c) b).stored) o) 0) last

    -- the initial store is the last one
    initially : length (accesses (runs_of t c)) ≤ a → unwrap_or (operation (runs_of t c) a).stored 0 ≡ unwrap_or (slice_get (initial_words t) k) 0
        → test (last_word t c k) ≡ true → may_end t region k test ≡ true
    initially past word holds =
        or_left _ _ (and_from _ _ (ap test (sym (word_is ∙ word)) ∙ holds) (not_true (list_any (λ n. must_be t region stored_at n k) (names t)) (λ any.
        let n = any_from (λ n. must_be t region stored_at n k) (names t) any in
        let at = accesses_there t c forward raw region inside stored_at n.0 k n.2 in
        let there = store_to_from (runs_of t c) k at.a (stores_there t c forward raw region inside n.0 k at.a n.2 at.name) at.address in
        elim (up_to_last t c raw k a at.a low last there) [
          | inl one ↦ (let few = name_low (runs_of t c) at.a n.0 at.name in omega (arith, few, one, past))
          | inr before ↦ (let few = edge_low t [] c raw at.a a (judged_co t [] c at.a a before) in omega (arith, few, past))
        ])))

    -- a store of a hart is
    later : (n : Name) → name_of (runs_of t c) a ≡ Some n → test (last_word t c k) ≡ true → may_end t region k test ≡ true
    later n name holds =
        let there = store_to_parts (runs_of t c) k a stores in
        let word = some_parts (operation (runs_of t c) a).stored there.0 in
        let is = done t c forward raw a n name in
        let stored : stored_at (steps_of c.traces n.hart) n.at ≡ Some word.0 = is.stored ∙ word.1 in
        let such : stores_such k test n (steps_of c.traces n.hart) ≡ true =
        and_from _ _ (same_from _ (Some (address_of k)) (address_of k) (is.address ∙ there.1) refl)
        (ap (passes test) stored ∙ ap test (sym (word_is ∙ ap (λ (o : Option ℕ). unwrap_or o 0) word.1)) ∙ holds) in
        or_right _ _ (any_in (λ m. not (list_any (region.before m) (names t)) && list_any (stores_such k test m) (region.runs m.hart)) (names t) n (name_there t c raw a n name)
        (and_from _ _
        (not_true (list_any (region.before n) (names t)) (λ any.
        let m = any_from (region.before n) (names t) any in
        let order = inside.orders n m.0 m.2 in
        let one = once t c forward raw order.0 a n order.2 name in
        last_before_none t c raw k a order.1 low last (subst (λ (z : ℕ). co c z order.1 ≡ true) one order.4)))
        (any_in (stores_such k test n) (region.runs n.hart) (steps_of c.traces n.hart) (inside.runs n.hart (hart_low t c raw a n name)) such)))

  pub ends_there : (k : ℕ) (test : ℕ → Bool) → k < length t.locations → test (last_word t c k) ≡ true → may_end t region k test ≡ true
  ends_there k test low holds =
      let last = last_there (stores_to c k) _ (stores_first t c raw k low) in
      elim (which (runs_of t c) last.0) [
        | Access few ↦ (let n = has_name (runs_of t c) last.0 few in later k test low last.0 last.1 n.0 n.1 holds)
        | Initial j less at is ↦ (
            let there = store_to_parts (runs_of t c) k last.0 (stores k test low last.0 last.1) in
            let same : j ≡ k = same_location j k (let both : Some (address_of j) ≡ Some (address_of k) = sym (ap (λ o. o.address) is) ∙ there.1 in cc) in
            let word : (operation (runs_of t c) last.0).stored ≡ slice_get (initial_words t) k =
            ap (λ o. o.stored) is ∙ sym (slice_get-get_or (initial_words t) j 0 less) ∙ ap (slice_get (initial_words t)) same in
            initially k test low last.0 last.1 (omega (arith, at)) (ap (λ (o : Option ℕ). unwrap_or o 0) word) holds)
        | Past far is ↦ absurd (
            let there = store_to_parts (runs_of t c) k last.0 (stores k test low last.0 last.1) in
            let none : None ≡ Some (address_of k) = sym (ap (λ o. o.address) is) ∙ there.1 in
            cc)
      ]

  -- ---- conditions

  register_is : (hart reg : ℕ) → hart < length t.codes → final_register t (traces_of t hart (steps_of c.traces hart)) hart reg ≡ final_register t c.traces hart reg
  register_is hart reg low =
      ap (λ (steps : List Step). read (hart_after (start_with (registers_of t hart)) steps).registers reg) (own_steps t hart (steps_of c.traces hart) low)

  pub may_be : (condition : Condition) (v : Bool) → SpeaksOf (length t.codes) (length t.locations) condition → truth t c condition ≡ v → may t region condition v ≡ true
  may_be Always v spoken e = sym e
  may_be Never v spoken e = ap not (sym e)
  may_be (RegisterIs hart reg word) v spoken e =
      any_in (λ run. has_truth v (final_register t (traces_of t hart run) hart reg == word)) (region.runs hart) (steps_of c.traces hart) (inside.runs hart spoken.0)
      (ap (λ (w : ℕ). has_truth v (w == word)) (register_is hart reg spoken.0) ∙ truth_is v (final_register t c.traces hart reg == word) e)
  may_be (LocationIs location word) v spoken e =
      ends_there location (λ w. has_truth v (w == word)) spoken.0 (truth_is v (last_word t c location == word) e)
  may_be (Deny d) v spoken e = may_be d (not v) spoken (not_is (truth t c d) v e)
  may_be (Both d f) true spoken e =
      let parts = and_parts (truth t c d) (truth t c f) e in and_from _ _ (may_be d true spoken.0 parts.0) (may_be f true spoken.1 parts.1)
  may_be (Both d f) false spoken e = elim (and_cases (truth t c d) (truth t c f) e) [
    | inl one ↦ or_left _ _ (may_be d false spoken.0 one)
    | inr other ↦ or_right _ _ (may_be f false spoken.1 other)
  ]
  may_be (Either d f) true spoken e = elim (or_cases (truth t c d) (truth t c f) e) [
    | inl one ↦ or_left _ _ (may_be d true spoken.0 one)
    | inr other ↦ or_right _ _ (may_be f true spoken.1 other)
  ]
  may_be (Either d f) false spoken e =
      let parts = or_parts (truth t c d) (truth t c f) e in and_from _ _ (may_be d false spoken.0 parts.0) (may_be f false spoken.1 parts.1)
