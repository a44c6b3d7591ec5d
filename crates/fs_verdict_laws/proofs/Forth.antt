-- A showing candidate with an order that respects its judged relation is an execution that shows the outcome.
use Rattle.std.proofs.Common.{◌≡◌, ℕ, ◌+◌, ◌<◌, ◌≤◌, ◌==◌, not, inl, inr, true, false, Option, None, Some, option_and_then, filter, List, [], ◌∷◌, length, refl, sym, ◌∙◌, ap, arith}
use Rattle.std.specs.Prelude.{slice_get, unwrap_or}
use Rattle.std.specs.List.{last_or}
use Rattle.std.proofs.lemmas.Bool.{false≢true, cases_Bool, cases_lt}
use Rattle.std.proofs.lemmas.List.{get_or_past, ext_get_or}
use Rattle.fs_kinds.specs.declared.placement.Entry.{Entry}
use Rattle.fs_model.specs.declared.test.Test.{Test}
use Rattle.fs_model.specs.Condition.{Condition, condition_of, Always, Never, RegisterIs, LocationIs, Deny, Both, Either}
use Rattle.fs_model.specs.Test.{address_of}
use Rattle.fs_model.specs.declared.step.Step.{Step}
use Rattle.fs_model.specs.Numbers.{has_number, stands_before}
use Rattle.fs_model.specs.Operations.{accesses, operation, is_load, is_store, same_word, same_hart, po}
use Rattle.fs_model.specs.Source.{gmo, source_in}
use Rattle.fs_model.specs.Preserved.{ppo}
use Rattle.fs_model.specs.Shows.{holds, is_outcome, is_store_to, final_word, final_register, has_outcome}
use Rattle.fs_model.specs.Execution.{ReturnsSources, IsAtomic, Respects, pre_execution}
use Rattle.fs_cert_evidence.specs.Candidates.{Candidate, IsShowing, runs_of, rf, co, stores_to, last_word}
use Rattle.fs_model.proofs.OptionalNumbers.{one_value}
use Rattle.fs_model.proofs.ListedNumbers.{has-here}
use Rattle.fs_model.proofs.NumberOrders.{before-first, before-second}
use Rattle.fs_model.proofs.FilteredNumbers.{filter_has, in_filter, before_in_filter, once-filter}
use Rattle.fs_model.proofs.LastNumber.{last_is, last_in, last_latest, last_some}
use Rattle.fs_model.proofs.OnceListed.{gmo_once}
use Rattle.fs_model.proofs.WhichOperation.{store_there}
use Rattle.fs_model.proofs.SameWord.{word_sym, word_trans}
use Rattle.fs_model.proofs.RunLocations.{AreRuns, located}
use Rattle.fs_model.proofs.RunPairs.{pair_accesses}
use Rattle.fs_verdict_laws.specs.Decide.{IsOrdered, IsExecuted, ordered_by, candidate_of}
use Rattle.fs_verdict_laws.proofs.Orders.{same_list}
use Rattle.fs_verdict_laws.proofs.CandidateOf.{stores_at, sources_many, rf_load, rf_none, stores_is, stores_many}
use Rattle.fs_verdict_laws.proofs.Agree.{IsFit, sources_agree, stores_agree}
use Rattle.fs_verdict_laws.proofs.GlobalOrder.{gmo_has}
use Rattle.fs_verdict_laws.proofs.Rules.{ppo_alike, judged_ppo, judged_rf, judged_co, judged_fr}
use Rattle.fs_verdict_laws.proofs.Sourced.{are_runs, source_is, load_sourced, stores_once, stores_first, in_stores, stores_in, co_from, co_total, store_to_parts, same_location}

-- ---- final words

-- a condition asks the words of locations alone
pub holds_alike : (register : ℕ → ℕ → ℕ) (v w : ℕ → ℕ) → ((k : ℕ) → v k ≡ w k) → (c : Condition) → holds register v c ≡ holds register w c
holds_alike register v w same Always = refl
holds_alike register v w same Never = refl
holds_alike register v w same (RegisterIs hart reg word) = refl
holds_alike register v w same (LocationIs location word) = ap (λ n. n == word) (same location)
holds_alike register v w same (Deny c) = ap not (holds_alike register v w same c)
holds_alike register v w same (Both c d) = rw (holds_alike register v w same c, holds_alike register v w same d) refl
holds_alike register v w same (Either c d) = rw (holds_alike register v w same c, holds_alike register v w same d) refl

none_last : (ns : List ℕ) → ((m : ℕ) → has_number ns m ≡ true → ⊥) → last_or None ns ≡ None
none_last [] none = refl
none_last (n ∷ ns) none = absurd (none n (has-here n ns n refl))

first_in : (ns : List ℕ) (s : ℕ) → slice_get ns 0 ≡ Some s → has_number ns s ≡ true
first_in [] s e = absurd (let f : None ≡ Some s = e in cc)
first_in (n ∷ ns) s e = has-here n ns s (let f : Some n ≡ Some s = e in cc)

-- past the locations no operation stores
pub none_past : (t : Test) (traces : List (List Step)) (are : AreRuns t traces) (order : List ℕ) (k : ℕ) → length t.locations ≤ k
    → last_or None (filter (is_store_to (pre_execution t traces) k) (gmo (pre_execution t traces) order)) ≡ None
none_past t traces are order k past =
    let x = pre_execution t traces in
    none_last (filter (is_store_to x k) (gmo x order)) (λ m there.
    let stores = store_to_parts x k m (filter_has (is_store_to x k) (gmo x order) m there).1 in
    let at = located t traces are m (store_there x m stores.0) in
    let same = same_location at.0 k (one_value (operation x m).address (address_of at.0) (address_of k) at.2 stores.1) in
    let low = at.1 in
    omega (arith, past, same, low))

made : (traces : List (List Step)) (u v : List (Option ℕ)) (m n : List (List ℕ)) → u ≡ v → m ≡ n
    → ◌≡◌ {A = Candidate} (record { traces = traces; source = u; store_order = m }) (record { traces = traces; source = v; store_order = n })
made traces u v m n e f = rw (e, f) refl

module _ (t : Test) (p : List Entry) (c : Candidate) (order : List ℕ) (showing : IsShowing t c) (ordered : IsOrdered t p c order) where
  fit : IsFit (gmo (runs_of t c) order) (is_store (runs_of t c)) (same_word (runs_of t c)) (po (runs_of t c)) (same_hart (runs_of t c)) (co c) (rf c)
  fit = record {
    once = gmo_once (runs_of t c) order ordered.once;
    whole = λ a stores. gmo_has (runs_of t c) order ordered.once a (store_there (runs_of t c) a stores);
    source_store = λ a s source. (source_is t c showing.raw a s source).store;
    source_same = λ a s source. (source_is t c showing.raw a s source).same;
    same_stores = λ a s m first second. word_trans (runs_of t c) m a s second (word_sym (runs_of t c) s a first);
    total = co_total t c showing.raw;
    own_first = showing.own;
    latest = showing.latest;
    by_co = λ a b later. ordered.respects a b (judged_co t p c a b later);
    by_rf = λ a s source far. ordered.respects s a (judged_rf t p c s a source far);
    by_fr = λ a s b source later apart. ordered.respects a b (judged_fr t p c a b s source later apart);
  }

  -- the sources of the order are those of the candidate
  pub sources_are : (a s : ℕ) → rf c a ≡ Some s → source_in (runs_of t c) order a ≡ Some s
  sources_are a s source =
      sources_agree (gmo (runs_of t c) order) (is_store (runs_of t c)) (same_word (runs_of t c)) (po (runs_of t c)) (same_hart (runs_of t c)) (co c) (rf c) fit a s source

  pub sources : (a : ℕ) → is_load (runs_of t c) a ≡ true → source_in (runs_of t c) order a ≡ rf c a
  sources a loads = let source = load_sourced t c showing.raw a loads in sources_are a source.0 source.1 ∙ sym source.1

  -- ---- the axioms

  preserved : Respects (gmo (runs_of t c) order) (λ a b. ppo (runs_of t c) p (source_in (runs_of t c) order) a b ≡ true)
  preserved a b before =
      ordered.respects a b (judged_ppo t p c a b (sym (ppo_alike (runs_of t c) p (source_in (runs_of t c) order) (rf c) sources a b) ∙ before))

  values : ReturnsSources (runs_of t c) (source_in (runs_of t c) order)
  values a loads =
      let source = load_sourced t c showing.raw a loads in
      let is = source_is t c showing.raw a source.0 source.1 in
      sym is.word ∙ ap (λ o. option_and_then (λ s. (operation (runs_of t c) s).stored) o) (sym (sources_are a source.0 source.1))

  forward_co : (a b : ℕ) → is_store (runs_of t c) a ≡ true → is_store (runs_of t c) b ≡ true → same_word (runs_of t c) a b ≡ true
      → stands_before (gmo (runs_of t c) order) a b ≡ true → co c a b ≡ true
  forward_co = stores_agree (gmo (runs_of t c) order) (is_store (runs_of t c)) (same_word (runs_of t c)) (po (runs_of t c)) (same_hart (runs_of t c)) (co c) (rf c) fit

  atomic : IsAtomic (runs_of t c) (source_in (runs_of t c) order) (gmo (runs_of t c) order)
  atomic r w s before pair source =
      let x = runs_of t c in
      let pair_is = pair_accesses t c.traces (are_runs t c showing.raw) r w before pair in
      let chosen : rf c r ≡ Some s = sym (sources r pair_is.0) ∙ source in
      let is = source_is t c showing.raw r s chosen in
      let at = showing.atomic r w s before pair chosen in
      let word = word_trans x s r w is.same pair_is.2 in (
        fit.by_co s w at.0,
        λ m stores same far after ahead.
            at.1 m far
            (forward_co s m is.store stores (word_trans x s w m word (word_sym x m w same)) after)
            (forward_co m w stores pair_is.1 same ahead),
      )

  -- ---- the outcome

  last_alike : (k : ℕ) → last_or None (filter (is_store_to (runs_of t c) k) (gmo (runs_of t c) order)) ≡ last_or None (stores_to c k)
  last_alike k = elim (cases_lt k (length t.locations)) [
    | inl low ↦ (
        let x = runs_of t c in
        let once = gmo_once x order ordered.once in
        let ys = stores_to c k in
        let first = first_in ys (length (accesses x) + k) (stores_first t c showing.raw k low) in
        let last = last_some ys (length (accesses x) + k) first in
        let there = last_in ys last.0 last.1 in
        let stores = stores_in t c showing.raw k last.0 low there in
        let many = showing.raw.locations in
        let less : k < length c.store_order = omega (arith, low, many) in
        last_is (filter (is_store_to x k) (gmo x order)) None last.0 (once-filter (is_store_to x k) (gmo x order) once)
        (in_filter (is_store_to x k) (gmo x order) last.0
        (gmo_has x order ordered.once last.0 (store_there x last.0 (store_to_parts x k last.0 stores).0)) stores)
        (λ m has.
        let test = (filter_has (is_store_to x k) (gmo x order) m has).1 in
        elim (last_latest ys None last.0 m (stores_once t c showing.raw k low) last.1 (in_stores t c showing.raw k m low test)) [
          | inl same ↦ inl same
          | inr before ↦ inr (before_in_filter (is_store_to x k) (gmo x order) m last.0
              (fit.by_co m last.0 (co_from c m last.0 k less before)) test stores)
        ])
        ∙ sym last.1)
    | inr past ↦ (
        let many = showing.raw.locations in
        let none : stores_to c k ≡ [] = get_or_past c.store_order k [] (omega (arith, past, many)) in
        none_past t c.traces (are_runs t c showing.raw) order k past ∙ ap (λ ns. last_or None ns) (sym none))
  ]

  words_alike : (k : ℕ) → final_word (runs_of t c) order k ≡ last_word t c k
  words_alike k = ap (λ o. unwrap_or (option_and_then (λ a. (operation (runs_of t c) a).stored) o) 0) (last_alike k)

  outcome : has_outcome t (ordered_by c order) ≡ true
  outcome =
      ap (is_outcome t.quantifier) (holds_alike (final_register t c.traces) (final_word (runs_of t c) order) (last_word t c) words_alike (condition_of t.condition))
      ∙ showing.outcome

  -- ---- the candidate of the execution is the one that we began with

  rf_quiet : (a : ℕ) → is_load (runs_of t c) a ≡ false → rf c a ≡ None
  rf_quiet a quiet = by_source (rf c a) refl
    where
      by_source : (o : Option ℕ) → rf c a ≡ o → o ≡ None
      by_source None e = refl
      by_source (Some s) e = absurd (false≢true (sym quiet ∙ (source_is t c showing.raw a s e).load))

  same_source : (a : ℕ) → rf (candidate_of t (ordered_by c order)) a ≡ rf c a
  same_source a = elim (cases_Bool (is_load (runs_of t c) a)) [
    | inl loads ↦ rf_load t (ordered_by c order) a loads ∙ sources a loads
    | inr quiet ↦ rf_none t (ordered_by c order) a quiet ∙ sym (rf_quiet a quiet)
  ]

  same_stores : (k : ℕ) → k < length t.locations → stores_at t (ordered_by c order) k ≡ stores_to c k
  same_stores k low =
      let x = runs_of t c in
      let many = showing.raw.locations in
      let less : k < length c.store_order = omega (arith, low, many) in
      let once = once-filter (is_store_to x k) (gmo x order) (gmo_once x order ordered.once) in
      sym (same_list (stores_to c k) (stores_at t (ordered_by c order) k) (stores_once t c showing.raw k low) once
      (λ a there.
      let stores = stores_in t c showing.raw k a low there in
      in_filter (is_store_to x k) (gmo x order) a (gmo_has x order ordered.once a (store_there x a (store_to_parts x k a stores).0)) stores)
      (λ a there. in_stores t c showing.raw k a low (filter_has (is_store_to x k) (gmo x order) a there).1)
      (λ a b before.
      let later = co_from c a b k less before in
      before_in_filter (is_store_to x k) (gmo x order) a b (fit.by_co a b later)
      (stores_in t c showing.raw k a low (before-first (stores_to c k) a b before))
      (stores_in t c showing.raw k b low (before-second (stores_to c k) a b before))))

  same_candidate : candidate_of t (ordered_by c order) ≡ c
  same_candidate =
      let e = ordered_by c order in
      let sources_long = sources_many t e ∙ sym showing.raw.sources_for_each in
      let stores_long = stores_many t e ∙ sym showing.raw.locations in
      let many = stores_many t e in
      let source : (candidate_of t e).source ≡ c.source = ext_get_or None (candidate_of t e).source c.source sources_long (λ a low. same_source a) in
      let store_order : (candidate_of t e).store_order ≡ c.store_order =
      ext_get_or [] (candidate_of t e).store_order c.store_order stores_long (λ k low.
      let less : k < length t.locations = omega (arith, low, many) in
      stores_is t e k less ∙ same_stores k less) in
      made c.traces (candidate_of t e).source c.source (candidate_of t e).store_order c.store_order source store_order

  pub executed : IsExecuted t p c order
  executed = record {
    shows = record {
      execution = record {
        harts = showing.raw.runs.harts;
        runs = showing.raw.runs.runs;
        axioms = record { once = ordered.once; preserved = preserved; values = values; atomic = atomic };
      };
      outcome = outcome;
    };
    sources = sources;
    candidate = same_candidate;
  }
