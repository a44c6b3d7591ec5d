-- An execution that shows the outcome is made by a showing candidate, whose judged relation its order respects.
use Rattle.std.proofs.Common.{◌≡◌, ℕ, ◌+◌, ◌<◌, ◌==◌, ◌⊎◌, ◌&&◌, ◌||◌, not, inl, inr, Bool, true, false, Option, None, Some, is_some, option_and_then, filter, List, [], length, refl, sym, ◌∙◌, ap, subst, arith}
use Rattle.std.specs.Prelude.{slice_get, unwrap_or}
use Rattle.std.specs.List.{last_or}
use Rattle.std.proofs.lemmas.Bool.{false≢true, cases_lt, cases_Bool, and_parts, and_from, or_cases, or_left, or_right, both_ways, eqb-false, eq-eqb, ne_eqb, false_from_ne_true, not_from_false}
use Rattle.std.proofs.lemmas.List.{get_or_past, length-map}
use Rattle.std.proofs.lemmas.List.FromFn.{length-map-range_with_len}
use Rattle.fs_kinds.specs.declared.placement.Entry.{Entry}
use Rattle.fs_model.specs.declared.test.Test.{Test}
use Rattle.fs_model.specs.Condition.{condition_of}
use Rattle.fs_model.specs.Test.{address_of}
use Rattle.fs_model.specs.Numbers.{has_number, numbers_below, stands_before}
use Rattle.fs_model.specs.Operations.{accesses, operations, operation, is_load, is_store, same_word, same_hart, po, paired}
use Rattle.fs_model.specs.Source.{gmo, may_return, source_in}
use Rattle.fs_model.specs.Preserved.{Rule1}
use Rattle.fs_model.specs.Shows.{is_outcome, is_store_to, final_word, final_register, holds, has_outcome}
use Rattle.fs_model.specs.Execution.{Execution, IsExecution}
use Rattle.fs_model.specs.Values.{IsGrounded}
use Rattle.fs_model.specs.Allows.{Shows}
use Rattle.fs_cert_evidence.specs.Candidates.{IsRaw, IsShowing, HasNoForeignBetween, rf, co, stores_to, last_word, is_source, is_sourced, is_store_order}
use Rattle.fs_cert_evidence.specs.Judged.{is_judged}
use Rattle.fs_model.proofs.OptionalNumbers.{same_parts, same_from, some_parts, one_value}
use Rattle.fs_model.proofs.ListedNumbers.{AreOnce, has-range, range-has, once-range, all_from}
use Rattle.fs_model.proofs.NumberOrders.{not_itself, not_both, either_way}
use Rattle.fs_model.proofs.FilteredNumbers.{filter_has, in_filter, before_in_filter, filter_before, once-filter}
use Rattle.fs_model.proofs.LastNumber.{last_some}
use Rattle.fs_model.proofs.CountedNumbers.{IsWithin, as_long}
use Rattle.fs_model.proofs.OnceListed.{gmo_once}
use Rattle.fs_model.proofs.WhichOperation.{store_there, load_access, length_operations, initial_is, Access, Initial, Past, which}
use Rattle.fs_model.proofs.SameWord.{word_sym, word_trans}
use Rattle.fs_model.proofs.ProgramOrder.{po_same, po_apart, po_total}
use Rattle.fs_model.proofs.ByRule.{by_rule}
use Rattle.fs_model.proofs.RunLocations.{AreRuns, located}
use Rattle.fs_model.proofs.RunPairs.{pair_accesses}
use Rattle.fs_values.specs.ThinAir.{CanBeListed}
use Rattle.fs_values.proofs.Faults.{never_astray}
use Rattle.fs_values.proofs.Grounded.{always_grounded}
use Rattle.fs_verdict_laws.specs.Decide.{IsOrdered, candidate_of}
use Rattle.fs_verdict_laws.proofs.Orders.{first_is}
use Rattle.fs_verdict_laws.proofs.Agree.{source_may, none_later}
use Rattle.fs_verdict_laws.proofs.GlobalOrder.{gmo_has, gmo_below, initial_first}
use Rattle.fs_verdict_laws.proofs.Rules.{ppo_alike, ByRule, BySource, ByOrder, ByRead, caused}
use Rattle.fs_verdict_laws.proofs.Sourced.{co_at, co_from, store_to_from, store_to_parts, same_location, stores_same}
use Rattle.fs_verdict_laws.proofs.CandidateOf.{runs, source_at, stores_at, rf_load, rf_none, stores_is, stores_many}
use Rattle.fs_verdict_laws.proofs.Forth.{holds_alike, none_past}

module _ (t : Test) (p : List Entry) (e : Execution) (execution : IsExecution t p e) where
  are : AreRuns t e.traces
  are = record { harts = execution.harts; runs = execution.runs }

  once : AreOnce (gmo (runs t e) e.order)
  once = gmo_once (runs t e) e.order execution.axioms.once

  has : (a : ℕ) → a < length (operations (runs t e)) → has_number (gmo (runs t e) e.order) a ≡ true
  has = gmo_has (runs t e) e.order execution.axioms.once

  load_low : (a : ℕ) → is_load (runs t e) a ≡ true → a < length (operations (runs t e))
  load_low a loads =
      let low = load_access (runs t e) a loads in
      let long = length_operations (runs t e) in
      omega (arith, low, long)

  words_long : length (runs t e).words ≡ length t.locations
  words_long = length-map t.locations (λ location. location.word)

  -- ---- sources

  rf_some : (a s : ℕ) → rf (candidate_of t e) a ≡ Some s → (is_load (runs t e) a ≡ true) × (source_in (runs t e) e.order a ≡ Some s)
  rf_some a s source = elim (cases_Bool (is_load (runs t e) a)) [
    | inl loads ↦ (loads, sym (rf_load t e a loads) ∙ source)
    | inr quiet ↦ absurd (let f : None ≡ Some s = sym (rf_none t e a quiet) ∙ source in cc)
  ]

  -- what the load value axiom asks of a source
  record IsReturned (a s : ℕ) : Type 0 where
    store : is_store (runs t e) s ≡ true
    same : same_word (runs t e) s a ≡ true
    when : (stands_before (gmo (runs t e) e.order) s a ≡ true) ⊎ (po (runs t e) s a ≡ true)

  returned : (a s : ℕ) → source_in (runs t e) e.order a ≡ Some s → IsReturned a s
  returned a s source =
      let may = source_may (gmo (runs t e) e.order) (may_return (runs t e) e.order a) once s source in
      let parts = and_parts (is_store (runs t e) s && same_word (runs t e) s a) _ may in
      let heads = and_parts (is_store (runs t e) s) (same_word (runs t e) s a) parts.0 in
      record {
        store = heads.0;
        same = heads.1;
        when = or_cases (stands_before (gmo (runs t e) e.order) s a) (po (runs t e) s a) parts.1;
      }

  may_from : (a m : ℕ) → is_store (runs t e) m ≡ true → same_word (runs t e) m a ≡ true
      → (stands_before (gmo (runs t e) e.order) m a || po (runs t e) m a) ≡ true → may_return (runs t e) e.order a m ≡ true
  may_from a m stores same when =
      and_from (is_store (runs t e) m && same_word (runs t e) m a) _ (and_from (is_store (runs t e) m) (same_word (runs t e) m a) stores same) when

  -- no store to the load's word that it may return is later than its source
  none_after : (a s m : ℕ) → source_in (runs t e) e.order a ≡ Some s → stands_before (gmo (runs t e) e.order) s m ≡ true
      → is_store (runs t e) m ≡ true → same_word (runs t e) m a ≡ true
      → (stands_before (gmo (runs t e) e.order) m a || po (runs t e) m a) ≡ true → ⊥
  none_after a s m source later stores same when =
      none_later (gmo (runs t e) e.order) (may_return (runs t e) e.order a) once s m source later
      (has m (store_there (runs t e) m stores)) (may_from a m stores same when)

  -- the initial store of its word, at least, can be returned
  source_there : (a : ℕ) → is_load (runs t e) a ≡ true → (s : ℕ) × (source_in (runs t e) e.order a ≡ Some s)
  source_there a loads =
      let x = runs t e in
      let low = load_access x a loads in
      let at = located t e.traces are a (load_low a loads) in
      let k = at.0 in
      let less = at.1 in
      let i = length (accesses x) + k in
      let many = words_long in
      let long = length_operations x in
      let initial = initial_is x i k refl (omega (arith, less, many)) in
      let stores : is_store x i ≡ true = ap (λ o. is_some o.stored) initial in
      let same : same_word x i a ≡ true = same_from (operation x i).address (operation x a).address (address_of k) (ap (λ o. o.address) initial) at.2 in
      let below : i < length (operations x) = omega (arith, less, many, long) in
      let before = initial_first x e.order execution.axioms.once i a (omega arith) below low in
      last_some (filter (may_return x e.order a) (gmo x e.order)) i
      (in_filter (may_return x e.order a) (gmo x e.order) i (has i below) (may_from a i stores same (or_left _ _ before)))

  apart : (a s : ℕ) → IsReturned a s → s ≡ a → ⊥
  apart a s is same = elim is.when [
    | inl before ↦ not_itself (gmo (runs t e) e.order) a once (subst (λ (n : ℕ). stands_before (gmo (runs t e) e.order) n a ≡ true) same before)
    | inr before ↦ po_apart (runs t e) a (subst (λ (n : ℕ). po (runs t e) n a ≡ true) same before)
  ]

  -- ---- coherence orders

  record AreOrdered (a b : ℕ) : Type 0 where
    location : ℕ
    first : is_store_to (runs t e) location a ≡ true
    second : is_store_to (runs t e) location b ≡ true
    before : stands_before (gmo (runs t e) e.order) a b ≡ true

  co_is : (a b : ℕ) → co (candidate_of t e) a b ≡ true → AreOrdered a b
  co_is a b later =
      let at = co_at (candidate_of t e) a b later in
      let many = stores_many t e in
      let low : at.0 < length t.locations = (let less = at.1 in omega (arith, less, many)) in
      let before : stands_before (stores_at t e at.0) a b ≡ true = subst (λ ns. stands_before ns a b ≡ true) (stores_is t e at.0 low) at.2 in
      let parts = filter_before (is_store_to (runs t e) at.0) (gmo (runs t e) e.order) a b before in
      record { location = at.0; first = parts.1; second = parts.2; before = parts.0 }

  co_made : (a b : ℕ) → is_store (runs t e) a ≡ true → is_store (runs t e) b ≡ true → same_word (runs t e) a b ≡ true
      → stands_before (gmo (runs t e) e.order) a b ≡ true → co (candidate_of t e) a b ≡ true
  co_made a b first second same before =
      let x = runs t e in
      let at = located t e.traces are a (store_there x a first) in
      let less = at.1 in
      let many = stores_many t e in
      let word = same_parts (operation x a).address (operation x b).address same in
      let there : (operation x b).address ≡ Some (address_of at.0) = word.2 ∙ sym word.1 ∙ at.2 in
      let ordered = before_in_filter (is_store_to x at.0) (gmo x e.order) a b before
      (store_to_from x at.0 a first at.2) (store_to_from x at.0 b second there) in
      co_from (candidate_of t e) a b at.0 (omega (arith, less, many)) (subst (λ ns. stands_before ns a b ≡ true) (sym (stores_is t e at.0 less)) ordered)

  -- ---- a raw candidate

  sourced_at : (a : ℕ) (loads : Bool) → is_load (runs t e) a ≡ loads → is_sourced (runs t e) a (rf (candidate_of t e) a) ≡ true
  sourced_at a true loads =
      let x = runs t e in
      let source = source_there a loads in
      let s = source.0 in
      let is = returned a s source.1 in
      let word : (operation x a).loaded ≡ (operation x s).stored =
      execution.axioms.values a loads ∙ ap (λ o. option_and_then (λ m. (operation x m).stored) o) source.1 in
      let value = some_parts (operation x a).loaded loads in
      let returns : is_source x a s ≡ true = and_from (is_store x s && same_word x s a && not (s == a)) _
      (and_from (is_store x s && same_word x s a) _ (and_from (is_store x s) _ is.store is.same) (not_from_false (s == a) (ne_eqb s a (apart a s is))))
      (same_from (operation x s).stored (operation x a).loaded value.0 (sym word ∙ value.1) value.1) in
      subst (λ (o : Option ℕ). is_sourced x a o ≡ true) (sym (rf_load t e a loads ∙ source.1)) (and_from (is_load x a) (is_source x a s) loads returns)
  sourced_at a false quiet =
      subst (λ (o : Option ℕ). is_sourced (runs t e) a o ≡ true) (sym (rf_none t e a quiet)) (not_from_false (is_load (runs t e) a) quiet)

  -- the initial store is before each other store to its location
  first_of_all : (k m : ℕ) → k < length t.locations → is_store_to (runs t e) k m ≡ true
      → (m ≡ length (accesses (runs t e)) + k)
      ⊎ (stands_before (gmo (runs t e) e.order) (length (accesses (runs t e)) + k) m ≡ true)
  first_of_all k m low stores =
      let x = runs t e in
      let many = words_long in
      let long = length_operations x in
      let parts = store_to_parts x k m stores in
      elim (which x m) [
        | Access few ↦ inr (initial_first x e.order execution.axioms.once (length (accesses x) + k) m (omega arith) (omega (arith, low, many, long)) few)
        | Initial j less at is ↦ inl (
            let same = same_location j k (one_value (operation x m).address (address_of j) (address_of k) (ap (λ o. o.address) is) parts.1) in
            omega (arith, at, same))
        | Past past is ↦ absurd (false≢true (sym (ap (λ o. is_some o.stored) is) ∙ parts.0))
      ]

  order_test : (k : ℕ) → k < length t.locations → is_store_order (runs t e) k (stores_at t e k) ≡ true
  order_test k low =
      let x = runs t e in
      let test = is_store_to x k in
      let many = words_long in
      let long = length_operations x in
      let i = length (accesses x) + k in
      let below : i < length (operations x) = omega (arith, low, many, long) in
      let initial = initial_is x i k refl (omega (arith, low, many)) in
      let stores : is_store_to x k i ≡ true = store_to_from x k i (ap (λ o. is_some o.stored) initial) (ap (λ o. o.address) initial) in
      let numbers = numbers_below (length (operations x)) in
      let within : IsWithin (filter test numbers) (filter test (gmo x e.order)) =
      λ a there.
      let parts = filter_has test numbers a there in
      let range = range-has 0 (length (operations x)) a parts.0 in
      in_filter test (gmo x e.order) a (has a (omega (arith, range.1))) parts.1 in
      let back : IsWithin (filter test (gmo x e.order)) (filter test numbers) =
      λ a there.
      let parts = filter_has test (gmo x e.order) a there in
      let range = gmo_below x e.order execution.axioms.once a parts.0 in
      in_filter test numbers a (has-range 0 (length (operations x)) a (omega arith) (omega (arith, range))) parts.1 in
      let first = first_is (filter test (gmo x e.order)) i (once-filter test (gmo x e.order) once) (in_filter test (gmo x e.order) i (has i below) stores)
      (λ m there.
      let passes = (filter_has test (gmo x e.order) m there).1 in
      elim (first_of_all k m low passes) [
        | inl same ↦ inl same
        | inr before ↦ inr (before_in_filter test (gmo x e.order) i m before stores passes)
      ]) in
      and_from _ _
      (and_from _ _ (same_from (slice_get (filter test (gmo x e.order)) 0) (Some i) i first refl)
      (eq-eqb _ _ (as_long (filter test (gmo x e.order)) (filter test numbers) (once-filter test (gmo x e.order) once)
      (once-filter test numbers (once-range 0 (length (operations x)))) back within)))
      (all_from (has_number (filter test (gmo x e.order))) (filter test numbers) within)

  raw : IsGrounded t e → IsRaw t (candidate_of t e)
  raw grounded = record {
    runs = record { harts = execution.harts; runs = execution.runs; values = grounded };
    sources_for_each = length-map-range_with_len (source_at t e) 0 (length (operations (runs t e)));
    sources = λ a low. sourced_at a (is_load (runs t e) a) refl;
    locations = stores_many t e;
    orders = λ k low. subst (λ ns. is_store_order (runs t e) k ns ≡ true) (sym (stores_is t e k low)) (order_test k low);
  }

  -- ---- a showing one

  last_alike : (k : ℕ) → last_or None (stores_to (candidate_of t e) k) ≡ last_or None (stores_at t e k)
  last_alike k = elim (cases_lt k (length t.locations)) [
    | inl low ↦ ap (last_or None) (stores_is t e k low)
    | inr past ↦ (
        let many = stores_many t e in
        let none : stores_to (candidate_of t e) k ≡ [] = get_or_past (candidate_of t e).store_order k [] (omega (arith, past, many)) in
        ap (last_or None) none ∙ sym (none_past t e.traces are e.order k past))
  ]

  words_alike : (k : ℕ) → last_word t (candidate_of t e) k ≡ final_word (runs t e) e.order k
  words_alike k = ap (λ o. unwrap_or (option_and_then (λ a. (operation (runs t e) a).stored) o) 0) (last_alike k)

  outcome : has_outcome t e ≡ true
      → is_outcome t.quantifier (holds (final_register t e.traces) (last_word t (candidate_of t e)) (condition_of t.condition)) ≡ true
  outcome shown =
      ap (is_outcome t.quantifier) (holds_alike (final_register t e.traces) (last_word t (candidate_of t e)) (final_word (runs t e) e.order) words_alike (condition_of t.condition))
      ∙ shown

  -- by rule 1, a load stands before each store to its word that is later in program order
  own : (a s : ℕ) → rf (candidate_of t e) a ≡ Some s → same_hart (runs t e) s a ≡ true → po (runs t e) s a ≡ true
  own a s source mine =
      let x = runs t e in
      let parts = rf_some a s source in
      let is = returned a s parts.1 in
      elim is.when [
        | inr in_program ↦ in_program
        | inl in_order ↦ (elim (po_total x s a mine (apart a s is)) [
          | inl forward ↦ forward
          | inr back ↦ absurd (
              let rule1 = by_rule x p (source_in x e.order) a s Rule1 back (and_from (is_store x s) (same_word x a s) is.store (word_sym x s a is.same)) in
              not_both (gmo x e.order) s a once in_order (execution.axioms.preserved a s rule1))
        ])
      ]

  latest : (a s m : ℕ) → rf (candidate_of t e) a ≡ Some s → is_store (runs t e) m ≡ true → same_word (runs t e) m a ≡ true
      → po (runs t e) m a ≡ true → co (candidate_of t e) s m ≡ false
  latest a s m source stores same before =
      false_from_ne_true (co (candidate_of t e) s m)
      (λ later. none_after a s m (rf_some a s source).1 (co_is s m later).before stores same (or_right (stands_before (gmo (runs t e) e.order) m a) _ before))

  atomic : (r w s : ℕ) → po (runs t e) r w ≡ true → paired (runs t e) r w ≡ true → rf (candidate_of t e) r ≡ Some s
      → (co (candidate_of t e) s w ≡ true) × HasNoForeignBetween (runs t e) (candidate_of t e) s w
  atomic r w s before pair source =
      let x = runs t e in
      let pair_is = pair_accesses t e.traces are r w before pair in
      let chosen = (rf_some r s source).1 in
      let is = returned r s chosen in
      let at = execution.axioms.atomic r w s before pair chosen in (
        co_made s w is.store pair_is.1 (word_trans x s r w is.same pair_is.2) at.0,
        λ m far after ahead.
            let first = co_is s m after in
            let second = co_is m w ahead in
            at.1 m (store_to_parts x second.location m second.first).0 (stores_same x second.location m w second.first second.second) far first.before second.before,
      )

  -- where it is grounded and shows the outcome
  pub is_showing : IsGrounded t e → has_outcome t e ≡ true → IsShowing t (candidate_of t e)
  is_showing grounded shown = record { raw = raw grounded; outcome = outcome shown; own = own; latest = latest; atomic = atomic }

  -- ---- the order respects its judged relation

  read_before : (a b s : ℕ) → rf (candidate_of t e) a ≡ Some s → co (candidate_of t e) s b ≡ true → (a ≡ b → ⊥)
      → stands_before (gmo (runs t e) e.order) a b ≡ true
  read_before a b s source later apart =
      let x = runs t e in
      let parts = rf_some a s source in
      let is = returned a s parts.1 in
      let at = co_is s b later in
      let stores = (store_to_parts x at.location b at.second).0 in
      elim (either_way (gmo x e.order) a b (has a (load_low a parts.0)) (has b (store_there x b stores)) apart) [
        | inl forward ↦ forward
        | inr back ↦ absurd (none_after a s b parts.1 at.before stores
            (word_trans x b s a (stores_same x at.location b s at.second at.first) is.same) (or_left _ (po x b a) back))
      ]

  respects : (a b : ℕ) → is_judged (runs t e) p (candidate_of t e) a b ≡ true → stands_before (gmo (runs t e) e.order) a b ≡ true
  respects a b edge = elim (caused t p (candidate_of t e) a b edge) [
    | ByRule preserved ↦ execution.axioms.preserved a b
        (sym (ppo_alike (runs t e) p (rf (candidate_of t e)) (source_in (runs t e) e.order) (rf_load t e) a b) ∙ preserved)
    | BySource source far ↦ (
        let is = returned b a (rf_some b a source).1 in
        elim is.when [
          | inl before ↦ before
          | inr before ↦ absurd (both_ways (same_hart (runs t e) a b) far (po_same (runs t e) a b before))
        ])
    | ByOrder later ↦ (co_is a b later).before
    | ByRead s source later apart ↦ read_before a b s source later (eqb-false a b apart)
  ]

  pub ordered : IsOrdered t p (candidate_of t e) e.order
  ordered = record { once = execution.axioms.once; respects = respects }

-- in a test whose runs can be listed each execution is grounded
pub showing : (t : Test) → CanBeListed t → (p : List Entry) (e : Execution) → Shows t p e → IsShowing t (candidate_of t e)
showing t listed p e shows =
    is_showing t p e shows.execution (always_grounded t listed.bounded listed.words (never_astray t listed.no_fault) p e shows.execution) shows.outcome
