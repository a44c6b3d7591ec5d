-- The raw candidates of the list are in their order, so each is there once.
use Rattle.std.proofs.Common.{◌≡◌, ◌≢◌, ℕ, suc, ◌+◌, ◌<◌, ◌==◌, ◌&&◌, true, Option, List, [], ◌∷◌, ◌++◌, map, length, refl, sym, subst, arith, inl, inr}
use Rattle.std.specs.Prelude.{nat_lt}
use Rattle.std.specs.List.{AllPairs, flat_map, slice_index_or}
use Rattle.std.proofs.lemmas.Bool.{false≢true, and_from, and_parts, or_left, or_right, or_cases, lt-ltb, ltb-true, eq-eqb}
use Rattle.fs_model.specs.declared.test.Test.{Test}
use Rattle.fs_model.specs.declared.step.Step.{Step}
use Rattle.fs_model.specs.Numbers.{numbers_below}
use Rattle.fs_model.specs.Choices.{choices_of, ComesBefore}
use Rattle.fs_model.specs.Operations.{PreExecution, accesses, operations}
use Rattle.fs_model.specs.Execution.{pre_execution}
use Rattle.fs_model.proofs.ChoiceOrder.{comes_not_itself}
use Rattle.fs_model.proofs.Pigeonhole.{IsAmong}
use Rattle.fs_cert_evidence.specs.Candidates.{Candidate}
use Rattle.fs_cert_evidence.specs.Listings.{AreEarlier, is_less, source_key, key, Precedes}
use Rattle.fs_cand_listing.specs.Ways.{orders, products}
use Rattle.fs_cand_listing.specs.RawCandidates.{AreAllRuns, sources_for, own_stores, store_orders, all_sources, all_orders, candidate, candidates_with, raw_candidates}
use Rattle.fs_cand_listing.proofs.Among.{map-among, Ascends, ascends-map, ascends-flat_map}
use Rattle.fs_cand_listing.proofs.Choosing.{products_ascend}
use Rattle.fs_cand_listing.proofs.Ordering.{Rises, rises-filter, orders_ascend}
use Rattle.fs_cand_listing.proofs.Sources.{IsSooner, sources_ascend, range_rises}
use Rattle.fs_cand_listing.proofs.Raw.{listed_runs}

-- ---- lexicographic order

less_here : (m n : ℕ) (ms ns : List ℕ) → m < n → is_less (m ∷ ms) (n ∷ ns) ≡ true
less_here m n ms ns less = or_left (nat_lt m n) ((m == n) && is_less ms ns) (lt-ltb m n less)

less_later : (m : ℕ) (ms ns : List ℕ) → is_less ms ns ≡ true → is_less (m ∷ ms) (m ∷ ns) ≡ true
less_later m ms ns less = or_right (nat_lt m m) ((m == m) && is_less ms ns) (and_from (m == m) (is_less ms ns) (eq-eqb m m refl) less)

less_behind : (ps ms ns : List ℕ) → is_less ms ns ≡ true → is_less (ps ++ ms) (ps ++ ns) ≡ true
less_behind [] ms ns less = less
less_behind (p ∷ ps) ms ns less = less_later p (ps ++ ms) (ps ++ ns) (less_behind ps ms ns less)

not_less_itself : (ns : List ℕ) → is_less ns ns ≡ true → ⊥
not_less_itself [] h = false≢true h
not_less_itself (n ∷ ns) h = elim (or_cases (nat_lt n n) ((n == n) && is_less ns ns) h) [
  | inl here ↦ (let less = ltb-true n n here in omega (arith, less))
  | inr later ↦ not_less_itself ns (and_parts (n == n) (is_less ns ns) later).1
]

-- less whatever stands behind them
abbrev IsLessEver : List ℕ → List ℕ → Type 0
IsLessEver ms ns = (p q : List ℕ) → is_less (ms ++ p) (ns ++ q) ≡ true

-- ---- of one list of runs

module _ (t : Test) (traces : List (List Step)) where
  abbrev x : PreExecution
  x = pre_execution t traces

  abbrev keys : List (Option ℕ) → List ℕ
  keys source = map (source_key (length (accesses x))) source

  abbrev joined : List (List ℕ) → List ℕ
  joined order = flat_map (λ stores. stores) order

  -- each list of a mapped range is one of the map
  each_list : {A : Type 0} (f : ℕ → List A) (P : List A → Type 0) → ((k : ℕ) → P (f k)) → (ns : List ℕ) (xs : List A)
      → IsAmong (map f ns) xs → P xs
  each_list f P each ns xs p = let from = map-among f ns xs p in subst P (sym from.2) (each from.0)

  abbrev SourcesLess : List (Option ℕ) → List (Option ℕ) → Type 0
  SourcesLess s u = IsLessEver (keys s) (keys u)

  sources_rise : Ascends SourcesLess (products (all_sources x))
  sources_rise =
      products_ascend (IsSooner x) SourcesLess
      (λ o p s u sooner v w. less_here (source_key (length (accesses x)) o) (source_key (length (accesses x)) p) (keys s ++ v) (keys u ++ w) sooner)
      (λ o s u less v w. less_later (source_key (length (accesses x)) o) (keys s ++ v) (keys u ++ w) (less v w))
      (all_sources x)
      (each_list (sources_for x) (Ascends (IsSooner x)) (λ k. sources_ascend x k) (numbers_below (length (operations x))))

  own_rise : (k : ℕ) → Rises (own_stores x k)
  own_rise k = rises-filter _ (numbers_below (length (accesses x))) (range_rises 0 (length (accesses x)))

  orders_rise : (k : ℕ) → Ascends IsLessEver (store_orders x k)
  orders_rise k =
      ascends-map IsLessEver IsLessEver (λ stores. (length (accesses x) + k) ∷ stores)
      (λ ms ns less p q. less_later (length (accesses x) + k) (ms ++ p) (ns ++ q) (less p q))
      (orders (own_stores x k))
      (orders_ascend IsLessEver
      (λ a b ms ns low p q. less_here a b (ms ++ p) (ns ++ q) low)
      (λ a ms ns less p q. less_later a (ms ++ p) (ns ++ q) (less p q))
      (length (own_stores x k)) (own_stores x k) (own_rise k))

  abbrev OrdersLess : List (List ℕ) → List (List ℕ) → Type 0
  OrdersLess o p = is_less (joined o) (joined p) ≡ true

  all_orders_rise : Ascends OrdersLess (products (all_orders t x))
  all_orders_rise =
      products_ascend IsLessEver OrdersLess
      (λ ms ns o p less. less (joined o) (joined p))
      (λ ms o p less. less_behind ms (joined o) (joined p) less)
      (all_orders t x)
      (each_list (store_orders x) (Ascends IsLessEver) orders_rise (numbers_below (length t.locations)))

  pub candidates_rise : Ascends (Precedes t) (candidates_with t traces)
  candidates_rise =
      ascends-flat_map SourcesLess (Precedes t) (λ s. map (candidate traces s) (products (all_orders t x)))
      (λ s u c d less here there.
      let from = map-among (candidate traces s) (products (all_orders t x)) c here in
      let to = map-among (candidate traces u) (products (all_orders t x)) d there in
      subst (λ e. Precedes t e d) (sym from.2) (subst (Precedes t (candidate traces s from.0)) (sym to.2)
      (inr (refl, less (joined from.0) (joined to.0)))))
      (products (all_sources x)) sources_rise
      (λ s there. ascends-map OrdersLess (Precedes t) (candidate traces s)
      (λ o p less. inr (refl, less_behind (keys s) (joined o) (joined p) less))
      (products (all_orders t x)) all_orders_rise)

-- ---- of all runs

abbrev Earlier : List Step → List Step → Type 0
Earlier s u = ComesBefore (choices_of s) (choices_of u)

-- what holds of all pairs holds of each and each later one
pub ascends_pairs : {A : Type 0} (R : A → A → Type 0) (xs : List A) → AllPairs R xs → Ascends R xs
ascends_pairs R [] h = tt
ascends_pairs R (x ∷ xs) h = (
  (λ y there. at xs (λ k d low. h 0 (suc k) d (omega arith) (omega (arith, low))) y there),
  ascends_pairs R xs (λ i j d before within. h (suc i) (suc j) d (omega (arith, before)) (omega (arith, within))),
)
  where
    at : (ys : List _) → ((k : ℕ) (d : _) → k < length ys → R x (slice_index_or ys k d)) → (y : _) → IsAmong ys y → R x y
    at [] each y p = absurd p
    at (z ∷ zs) each y p = elim p [
      | inl same ↦ subst (R x) (sym same) (each 0 y (omega arith))
      | inr later ↦ at zs (λ k d low. each (suc k) d (omega (arith, low))) y later
    ]

not_earlier_itself : (ts : List (List Step)) → AreEarlier ts ts → ⊥
not_earlier_itself [] h = h
not_earlier_itself (s ∷ ss) h = elim h [
  | inl first ↦ comes_not_itself (choices_of s) first
  | inr same ↦ not_earlier_itself ss same.1
]

pub not_itself : (t : Test) (c d : Candidate) → Precedes t c d → c ≢ d
not_itself t c d h same = elim (subst (Precedes t c) (sym same) h) [
  | inl runs ↦ not_earlier_itself c.traces runs
  | inr keys ↦ not_less_itself (key t c) keys.1
]

pub other_runs : (ss us : List (List Step)) → AreEarlier ss us → ss ≢ us
other_runs ss us h same = not_earlier_itself ss (subst (AreEarlier ss) (sym same) h)

module _ (t : Test) (lists : List (List (List Step))) (runs : AreAllRuns t lists) where
  each_rises : (from : List (List (List Step))) → ((k : ℕ) → k < length from → Ascends Earlier (slice_index_or from k []))
      → (ss : List (List Step)) → IsAmong from ss → Ascends Earlier ss
  each_rises [] each ss p = absurd p
  each_rises (us ∷ from) each ss p = elim p [
    | inl same ↦ subst (Ascends Earlier) (sym same) (each 0 (omega arith))
    | inr later ↦ each_rises from (λ k low. each (suc k) (omega (arith, low))) ss later
  ]

  pub runs_rise : Ascends AreEarlier (products lists)
  runs_rise =
      products_ascend Earlier AreEarlier
      (λ s u ss us first. inl first)
      (λ s ss us later. inr (refl, later))
      lists
      (each_rises lists (λ k low.
      let long = runs.harts in
      ascends_pairs Earlier (slice_index_or lists k []) (runs.rising k (omega (arith, low, long)))))

  pub raw_rise : Ascends (Precedes t) (raw_candidates t lists)
  raw_rise =
      ascends-flat_map AreEarlier (Precedes t) (candidates_with t)
      (λ ss us c d earlier here there.
      inl (subst (λ ts. AreEarlier ts d.traces) (sym (listed_runs t ss c here))
      (subst (AreEarlier ss) (sym (listed_runs t us d there)) earlier)))
      (products lists) runs_rise (λ ss there. candidates_rise t ss)
