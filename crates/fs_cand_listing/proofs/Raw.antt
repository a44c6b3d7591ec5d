-- The raw candidates are those of the list.
use Rattle.std.proofs.Common.{◌≡◌, ℕ, zero, suc, ◌+◌, ◌<◌, true, Option, None, List, [], ◌∷◌, map, length, ap, sym, subst, ◌∙◌, arith, inl, inr}
use Rattle.std.specs.List.{Contains, slice_index_or}
use Rattle.std.proofs.lemmas.List.{length-map}
use Rattle.fs_model.specs.declared.test.Test.{Test}
use Rattle.fs_model.specs.declared.step.Step.{Step}
use Rattle.fs_model.specs.Operations.{PreExecution, operations}
use Rattle.fs_model.specs.Execution.{pre_execution}
use Rattle.fs_model.specs.Values.{AreRunsOverValues}
use Rattle.fs_model.proofs.Pigeonhole.{IsAmong}
use Rattle.fs_cert_evidence.specs.Candidates.{Candidate, IsRaw, rf, runs_of, is_sourced, stores_to, is_store_order}
use Rattle.fs_cand_listing.specs.Ways.{products}
use Rattle.fs_cand_listing.specs.RawCandidates.{AreAllRuns, sources_for, store_orders, all_sources, all_orders, candidate, candidates_with, raw_candidates}
use Rattle.fs_cand_listing.proofs.Among.{among-map, map-among, among-flat_map, flat_map-among}
use Rattle.fs_cand_listing.proofs.Choosing.{taken_listed, listed_taken, taken_by_number, number_taken, taken_by_index, index_taken}
use Rattle.fs_cand_listing.proofs.Sources.{source_listed, listed_source}
use Rattle.fs_cand_listing.proofs.StoreOrders.{order_in_list, list_has_order}

-- ---- what is in a list is among it

pub among_from : {A : Type 0} (xs : List A) (x : A) → Contains xs x → IsAmong xs x
among_from [] x (k, low, same) = absurd (omega (arith, low))
among_from (y ∷ ys) x (zero, low, same) = inl (sym same)
among_from (y ∷ ys) x (suc k, low, same) = inr (among_from ys x (k, omega (arith, low), same))

pub contains_from : {A : Type 0} (xs : List A) (x : A) → IsAmong xs x → Contains xs x
contains_from [] x p = absurd p
contains_from (y ∷ ys) x p = elim p [
  | inl same ↦ (0, omega arith, sym same)
  | inr later ↦ (let rest = contains_from ys x later in (suc rest.0, (let low = rest.1 in omega (arith, low)), rest.2))
]

-- ---- candidates of the same runs

-- the rest of what makes a raw candidate
pub record AreChosen (t : Test) (c : Candidate) : Type 0 where
  pub sources_for_each : length c.source ≡ length (operations (runs_of t c))
  pub sources : (a : ℕ) → a < length c.source → is_sourced (runs_of t c) a (rf c a) ≡ true
  pub locations : length c.store_order ≡ length t.locations
  pub orders :
      (location : ℕ) → location < length t.locations → is_store_order (runs_of t c) location (stores_to c location) ≡ true

module _ (t : Test) (traces : List (List Step)) where
  abbrev x : PreExecution
  x = pre_execution t traces

  words_low : (k : ℕ) → k < length t.locations → k < length x.words
  words_low k low = let long = length-map t.locations (λ location. location.word) in omega (arith, low, long)

  sources_taken : (source : List (Option ℕ)) → length source ≡ length (operations x)
      → ((a : ℕ) → a < length source → is_sourced x a (slice_index_or source a None) ≡ true)
      → IsAmong (products (all_sources x)) source
  sources_taken source long each =
      taken_listed (all_sources x) source (taken_by_number (sources_for x) None 0 (length (operations x)) source long
      (λ k low.
      let same : k ≡ 0 + k = omega arith in
      subst (λ (n : ℕ). IsAmong (sources_for x n) (slice_index_or source k None)) same
      (source_listed x k (slice_index_or source k None) (each k (omega (arith, low, long))))))

  orders_taken : (order : List (List ℕ)) → length order ≡ length t.locations
      → ((k : ℕ) → k < length t.locations → is_store_order x k (slice_index_or order k []) ≡ true)
      → IsAmong (products (all_orders t x)) order
  orders_taken order long each =
      taken_listed (all_orders t x) order (taken_by_number (store_orders x) [] 0 (length t.locations) order long
      (λ k low.
      let same : k ≡ 0 + k = omega arith in
      subst (λ (n : ℕ). IsAmong (store_orders x n) (slice_index_or order k [])) same
      (order_in_list x k (words_low k low) (slice_index_or order k []) (each k low))))

  pub chosen_listed : (source : List (Option ℕ)) (order : List (List ℕ)) → AreChosen t (candidate traces source order)
      → IsAmong (candidates_with t traces) (candidate traces source order)
  chosen_listed source order h =
      among-flat_map (λ s. map (candidate traces s) (products (all_orders t x))) (products (all_sources x)) source (candidate traces source order)
      (sources_taken source h.sources_for_each h.sources)
      (among-map (candidate traces source) (products (all_orders t x)) order (orders_taken order h.locations h.orders))

  sources_chosen : (source : List (Option ℕ)) → IsAmong (products (all_sources x)) source
      → (length source ≡ length (operations x)) × ((a : ℕ) → a < length source → is_sourced x a (slice_index_or source a None) ≡ true)
  sources_chosen source p =
      let taken = number_taken (sources_for x) None 0 (length (operations x)) source (listed_taken (all_sources x) source p) in (
        taken.0,
        λ k low.
            let same : 0 + k ≡ k = omega arith in
            let long = taken.0 in
            listed_source x k (slice_index_or source k None)
            (subst (λ (n : ℕ). IsAmong (sources_for x n) (slice_index_or source k None)) same (taken.1 k (omega (arith, low, long)))),
      )

  orders_chosen : (order : List (List ℕ)) → IsAmong (products (all_orders t x)) order
      → (length order ≡ length t.locations) × ((k : ℕ) → k < length t.locations → is_store_order x k (slice_index_or order k []) ≡ true)
  orders_chosen order p =
      let taken = number_taken (store_orders x) [] 0 (length t.locations) order (listed_taken (all_orders t x) order p) in (
        taken.0,
        λ k low.
            let same : 0 + k ≡ k = omega arith in
            list_has_order x k (words_low k low) (slice_index_or order k [])
            (subst (λ (n : ℕ). IsAmong (store_orders x n) (slice_index_or order k [])) same (taken.1 k low)),
      )

  -- a candidate of the list has these runs
  pub listed_parts : (c : Candidate) → IsAmong (candidates_with t traces) c
      → (source : List (Option ℕ)) × (order : List (List ℕ)) × (c ≡ candidate traces source order)
      × IsAmong (products (all_sources x)) source × IsAmong (products (all_orders t x)) order
  listed_parts c p =
      let first = flat_map-among (λ s. map (candidate traces s) (products (all_orders t x))) (products (all_sources x)) c p in
      let second = map-among (candidate traces first.0) (products (all_orders t x)) c first.2 in
      (first.0, second.0, second.2, first.1, second.1)

  pub listed_runs : (c : Candidate) → IsAmong (candidates_with t traces) c → c.traces ≡ traces
  listed_runs c p = ap (λ (d : Candidate). d.traces) (listed_parts c p).2

  pub listed_chosen : (c : Candidate) → IsAmong (candidates_with t traces) c → AreChosen t c
  listed_chosen c p =
      let parts = listed_parts c p in
      let sources = sources_chosen parts.0 parts.3 in
      let orders = orders_chosen parts.1 parts.4 in
      subst (AreChosen t) (sym parts.2)
      (record { sources_for_each = sources.0; sources = sources.1; locations = orders.0; orders = orders.1 })

-- ---- of all runs

module _ (t : Test) (lists : List (List (List Step))) (runs : AreAllRuns t lists) where
  pub runs_listed : (traces : List (List Step)) → AreRunsOverValues t traces → IsAmong (products lists) traces
  runs_listed traces h =
      let harts = h.harts in
      let long = runs.harts in
      taken_listed lists traces (taken_by_index [] lists traces (omega (arith, harts, long)) (λ k low.
      let here : k < length t.codes = omega (arith, low, long) in
      among_from (slice_index_or lists k []) (slice_index_or traces k [])
      ((runs.each k here (slice_index_or traces k [])).1 (h.runs k here, h.values k here))))

  pub listed_over : (traces : List (List Step)) → IsAmong (products lists) traces → AreRunsOverValues t traces
  listed_over traces p =
      let taken = index_taken [] lists traces (listed_taken lists traces p) in
      let long = runs.harts in
      let each = λ (k : ℕ) (low : k < length t.codes).
      (runs.each k low (slice_index_or traces k [])).0
      (contains_from (slice_index_or lists k []) (slice_index_or traces k []) (taken.1 k (omega (arith, low, long)))) in
      record {
        harts = taken.0 ∙ long;
        runs = λ k low. (each k low).0;
        values = λ k low. (each k low).1;
      }

  pub raw_listed : (c : Candidate) → IsRaw t c → IsAmong (raw_candidates t lists) c
  raw_listed c h =
      among-flat_map (candidates_with t) (products lists) c.traces c (runs_listed c.traces h.runs)
      (chosen_listed t c.traces c.source c.store_order
      (record { sources_for_each = h.sources_for_each; sources = h.sources; locations = h.locations; orders = h.orders }))

  pub listed_raw : (c : Candidate) → IsAmong (raw_candidates t lists) c → IsRaw t c
  listed_raw c p =
      let from = flat_map-among (candidates_with t) (products lists) c p in
      let chosen = listed_chosen t from.0 c from.2 in
      let same = listed_runs t from.0 c from.2 in
      record {
        runs = subst (AreRunsOverValues t) (sym same) (listed_over from.0 from.1);
        sources_for_each = chosen.sources_for_each;
        sources = chosen.sources;
        locations = chosen.locations;
        orders = chosen.orders;
      }
