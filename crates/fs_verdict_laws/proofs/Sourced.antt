-- The sources and coherence orders of a raw candidate.
use Rattle.std.proofs.Common.{◌≡◌, ℕ, zero, suc, ◌+◌, ◌<◌, ◌⊎◌, inl, inr, Bool, true, Option, None, Some, filter, List, [], ◌∷◌, length, refl, sym, ◌∙◌, subst, arith}
use Rattle.std.specs.Prelude.{slice_get}
use Rattle.std.specs.List.{list_any, slice_index_or}
use Rattle.std.proofs.lemmas.Bool.{false≢true, cases_lt, cases_eq, and_parts, and_from, or_cases, or_left, or_right, eqb-true, not-true}
use Rattle.std.proofs.lemmas.List.{get_or_past}
use Rattle.fs_model.specs.declared.test.Test.{Test}
use Rattle.fs_model.specs.Test.{address_of}
use Rattle.fs_model.specs.Numbers.{has_number, is_same, numbers_below, stands_before}
use Rattle.fs_model.specs.Operations.{PreExecution, accesses, operations, operation, is_load, is_store, same_word}
use Rattle.fs_model.specs.Shows.{is_store_to}
use Rattle.fs_cert_evidence.specs.Candidates.{Candidate, IsRaw, runs_of, rf, co, stores_to, is_source, is_sourced}
use Rattle.fs_model.proofs.OptionalNumbers.{same_parts, same_from, not_none}
use Rattle.fs_model.proofs.ListedNumbers.{AreOnce, once-range, has-range, all_at}
use Rattle.fs_model.proofs.NumberOrders.{before-first, before-second, either_way}
use Rattle.fs_model.proofs.FilteredNumbers.{filter_has, in_filter, once-filter}
use Rattle.fs_model.proofs.CountedNumbers.{IsWithin, no_others, each_once}
use Rattle.fs_model.proofs.WhichOperation.{store_there, load_access, length_operations}
use Rattle.fs_model.proofs.RunLocations.{AreRuns, located}

-- ---- a test that one of the lists passes

any_index : {X : Type 0} (f : List X → Bool) (xs : List (List X)) → list_any f xs ≡ true
    → (k : ℕ) × (k < length xs) × (f (slice_index_or xs k []) ≡ true)
any_index f [] h = absurd (false≢true h)
any_index f (x ∷ xs) h = elim (or_cases (f x) (list_any f xs) h) [
  | inl here ↦ (0, omega arith, here)
  | inr later ↦ (let rest = any_index f xs later in (suc rest.0, (let low = rest.1 in omega (arith, low)), rest.2))
]

index_any : {X : Type 0} (f : List X → Bool) (xs : List (List X)) (k : ℕ) → k < length xs → f (slice_index_or xs k []) ≡ true → list_any f xs ≡ true
index_any f [] k low h = absurd (omega (arith, low))
index_any f (x ∷ xs) zero low h = or_left _ _ h
index_any f (x ∷ xs) (suc k) low h = or_right (f x) _ (index_any f xs k (omega (arith, low)) h)

pub co_at : (c : Candidate) (a b : ℕ) → co c a b ≡ true → (k : ℕ) × (k < length c.store_order) × (stands_before (stores_to c k) a b ≡ true)
co_at c a b h = any_index (λ stores. stands_before stores a b) c.store_order h

pub co_from : (c : Candidate) (a b k : ℕ) → k < length c.store_order → stands_before (stores_to c k) a b ≡ true → co c a b ≡ true
co_from c a b k low h = index_any (λ stores. stands_before stores a b) c.store_order k low h

-- ---- stores to a location

pub store_to_from : (x : PreExecution) (k a : ℕ) → is_store x a ≡ true → (operation x a).address ≡ Some (address_of k) → is_store_to x k a ≡ true
store_to_from x k a stores at = and_from _ _ stores (same_from (operation x a).address (Some (address_of k)) (address_of k) at refl)

pub store_to_parts : (x : PreExecution) (k a : ℕ) → is_store_to x k a ≡ true → (is_store x a ≡ true) × ((operation x a).address ≡ Some (address_of k))
store_to_parts x k a h =
    let parts = and_parts (is_store x a) (is_same (operation x a).address (Some (address_of k))) h in
    let same = same_parts (operation x a).address (Some (address_of k)) parts.1 in
    (parts.0, same.1 ∙ sym same.2)

pub same_location : (j k : ℕ) → address_of j ≡ address_of k → j ≡ k
same_location j k e = omega (arith, e)

pub stores_same : (x : PreExecution) (k a b : ℕ) → is_store_to x k a ≡ true → is_store_to x k b ≡ true → same_word x a b ≡ true
stores_same x k a b h g =
    same_from (operation x a).address (operation x b).address (address_of k) (store_to_parts x k a h).1 (store_to_parts x k b g).1

module _ (t : Test) (c : Candidate) (raw : IsRaw t c) where
  pub are_runs : AreRuns t c.traces
  are_runs = record { harts = raw.runs.harts; runs = raw.runs.runs }

  -- ---- sources

  sourced : (a : ℕ) (o : Option ℕ) → rf c a ≡ o → a < length c.source → is_sourced (runs_of t c) a o ≡ true
  sourced a o e low = subst (λ (u : Option ℕ). is_sourced (runs_of t c) a u ≡ true) e (raw.sources a low)

  source_low : (a s : ℕ) → rf c a ≡ Some s → a < length c.source
  source_low a s e = elim (cases_lt a (length c.source)) [
    | inl low ↦ low
    | inr past ↦ absurd (not_none (rf c a) s (get_or_past c.source a None past) e)
  ]

  -- what a source is
  pub record IsSource (a s : ℕ) : Type 0 where
    pub load : is_load (runs_of t c) a ≡ true
    pub store : is_store (runs_of t c) s ≡ true
    pub same : same_word (runs_of t c) s a ≡ true
    pub word : (operation (runs_of t c) s).stored ≡ (operation (runs_of t c) a).loaded

  pub source_is : (a s : ℕ) → rf c a ≡ Some s → IsSource a s
  source_is a s e =
      let whole = and_parts (is_load (runs_of t c) a) (is_source (runs_of t c) a s) (sourced a (Some s) e (source_low a s e)) in
      let parts = and_parts _ _ whole.1 in
      let front = and_parts _ _ parts.0 in
      let heads = and_parts _ _ front.0 in
      let word = same_parts (operation (runs_of t c) s).stored (operation (runs_of t c) a).loaded parts.1 in
      record { load = whole.0; store = heads.0; same = heads.1; word = word.1 ∙ sym word.2 }

  pub load_sourced : (a : ℕ) → is_load (runs_of t c) a ≡ true → (s : ℕ) × (rf c a ≡ Some s)
  load_sourced a loads = by_source (rf c a) refl
    where
      low : a < length c.source
      low =
          let few = load_access (runs_of t c) a loads in
          let long = length_operations (runs_of t c) in
          let each = raw.sources_for_each in
          omega (arith, few, long, each)

      by_source : (o : Option ℕ) → rf c a ≡ o → (s : ℕ) × (rf c a ≡ Some s)
      by_source None e = absurd (false≢true (sym (not-true (is_load (runs_of t c) a) (sourced a None e low)) ∙ loads))
      by_source (Some s) e = (s, e)

  -- ---- coherence orders

  -- the stores of a location by their numbers
  numbered : ℕ → List ℕ
  numbered k = filter (is_store_to (runs_of t c) k) (numbers_below (length (operations (runs_of t c))))

  numbered_once : (k : ℕ) → AreOnce (numbered k)
  unfolding numbered
  numbered_once k =
      once-filter (is_store_to (runs_of t c) k) (numbers_below (length (operations (runs_of t c)))) (once-range 0 (length (operations (runs_of t c))))

  -- what the test of a coherence order says
  record IsListed (k : ℕ) : Type 0 where
    first : slice_get (stores_to c k) 0 ≡ Some (length (accesses (runs_of t c)) + k)
    long : length (stores_to c k) ≡ length (numbered k)
    all : IsWithin (numbered k) (stores_to c k)

  listed : (k : ℕ) → k < length t.locations → IsListed k
  unfolding numbered
  listed k low =
      let parts = and_parts _ _ (raw.orders k low) in
      let heads = and_parts _ _ parts.0 in
      let same = same_parts (slice_get (stores_to c k) 0) (Some (length (accesses (runs_of t c)) + k)) heads.0 in
      record {
        first = same.1 ∙ sym same.2;
        long = eqb-true _ _ heads.1;
        all = λ a there. all_at (has_number (stores_to c k)) (numbered k) a parts.1 there;
      }

  pub stores_once : (k : ℕ) → k < length t.locations → AreOnce (stores_to c k)
  stores_once k low = let at = listed k low in each_once (numbered k) (stores_to c k) (numbered_once k) at.all at.long

  pub stores_first : (k : ℕ) → k < length t.locations → slice_get (stores_to c k) 0 ≡ Some (length (accesses (runs_of t c)) + k)
  stores_first k low = (listed k low).first

  pub in_stores : (k a : ℕ) → k < length t.locations → is_store_to (runs_of t c) k a ≡ true → has_number (stores_to c k) a ≡ true
  unfolding numbered
  in_stores k a low stores =
      let below = store_there (runs_of t c) a (store_to_parts (runs_of t c) k a stores).0 in
      (listed k low).all a
      (in_filter (is_store_to (runs_of t c) k) (numbers_below (length (operations (runs_of t c)))) a
      (has-range 0 (length (operations (runs_of t c))) a (omega arith) (omega (arith, below))) stores)

  pub stores_in : (k a : ℕ) → k < length t.locations → has_number (stores_to c k) a ≡ true → is_store_to (runs_of t c) k a ≡ true
  unfolding numbered
  stores_in k a low there =
      let at = listed k low in
      (filter_has (is_store_to (runs_of t c) k) (numbers_below (length (operations (runs_of t c)))) a
      (no_others (numbered k) (stores_to c k) (numbered_once k) at.all at.long a there)).1

  -- ---- coherence order

  pub record InOrder (a b : ℕ) : Type 0 where
    pub location : ℕ
    pub low : location < length t.locations
    pub before : stands_before (stores_to c location) a b ≡ true
    pub first : is_store_to (runs_of t c) location a ≡ true
    pub second : is_store_to (runs_of t c) location b ≡ true

  pub co_is : (a b : ℕ) → co c a b ≡ true → InOrder a b
  co_is a b h =
      let found = co_at c a b h in
      let many = raw.locations in
      let low : found.0 < length t.locations = (let less = found.1 in omega (arith, less, many)) in
      record {
        location = found.0;
        low = low;
        before = found.2;
        first = stores_in found.0 a low (before-first (stores_to c found.0) a b found.2);
        second = stores_in found.0 b low (before-second (stores_to c found.0) a b found.2);
      }

  -- two stores to one word are in coherence order
  pub co_total : (m s : ℕ) → is_store (runs_of t c) m ≡ true → is_store (runs_of t c) s ≡ true → same_word (runs_of t c) m s ≡ true
      → (m ≡ s) ⊎ ((co c m s ≡ true) ⊎ (co c s m ≡ true))
  co_total m s sm ss same = elim (cases_eq m s) [
    | inl e ↦ inl e
    | inr ne ↦ inr (
        let at = located t c.traces are_runs m (store_there (runs_of t c) m sm) in
        let word = same_parts (operation (runs_of t c) m).address (operation (runs_of t c) s).address same in
        let there : (operation (runs_of t c) s).address ≡ Some (address_of at.0) = word.2 ∙ sym word.1 ∙ at.2 in
        let first = in_stores at.0 m at.1 (store_to_from (runs_of t c) at.0 m sm at.2) in
        let second = in_stores at.0 s at.1 (store_to_from (runs_of t c) at.0 s ss there) in
        let many = raw.locations in
        let low : at.0 < length c.store_order = (let less = at.1 in omega (arith, less, many)) in
        elim (either_way (stores_to c at.0) m s first second ne) [
          | inl forward ↦ inl (co_from c m s at.0 low forward)
          | inr back ↦ inr (co_from c s m at.0 low back)
        ])
  ]
