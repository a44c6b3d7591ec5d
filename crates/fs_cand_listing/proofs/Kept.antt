-- The raw candidates of given runs by number, and the numbers of those that show the outcome.
use Rattle.std.proofs.Common.{◌≡◌, ◌∙◌, ℕ, zero, suc, ◌+◌, ◌*◌, ◌/◌, ◌%◌, ◌<◌, ◌≤◌, ◌&&◌, Bool, true, false, cond, Option, List, [], ◌∷◌, ◌++◌, map, filter, length, take, get_or, refl, sym, ap, subst, arith, inl, inr, append_assoc}
use Rattle.std.specs.List.{flat_map, range_with_len}
use Rattle.std.proofs.Math.Nat.{suc-mul, mul_comm, div-lt_iff_lt-mul}
use Rattle.std.proofs.lemmas.Nat.{div-add-mod'}
use Rattle.std.proofs.lemmas.Bool.{cases_lt}
use Rattle.std.proofs.lemmas.List.{length-map, length-take-le, get_or-map, map-append, append-nil}
use Rattle.std.proofs.lemmas.List.Elements.{filter-append}
use Rattle.std.proofs.lemmas.List.Concat.{get_or-flat_map}
use Rattle.std.proofs.lemmas.List.FromFn.{length-range_with_len}
use Rattle.fs_model.specs.declared.test.Test.{Test}
use Rattle.fs_model.specs.Numbers.{numbers_below}
use Rattle.fs_model.specs.Operations.{PreExecution, accesses}
use Rattle.fs_model.specs.Shows.{is_store_to}
use Rattle.fs_model.specs.Execution.{pre_execution}
use Rattle.fs_model.proofs.ListedNumbers.{AreOnce, once-range, range-has}
use Rattle.fs_model.proofs.FilteredNumbers.{once-filter}
use Rattle.fs_model.proofs.WhichOperation.{length_operations}
use Rattle.fs_hart.specs.declared.trace.Trace.{Trace}
use Rattle.fs_hart.specs.Steps.{steps_in}
use Rattle.fs_model.proofs.Pigeonhole.{IsAmong}
use Rattle.fs_cert_evidence.specs.Candidates.{Candidate, runs_of}
use Rattle.fs_cert_evidence.specs.CandidateFaults.{most_candidates}
use Rattle.fs_cand_listing.specs.declared.place.Place.{Place}
use Rattle.fs_cand_listing.specs.declared.prepared.Prepared.{Prepared}
use Rattle.fs_cand_listing.specs.Ways.{orders, products, product_by, product_of_lengths, factorial}
use Rattle.fs_cand_listing.specs.RawCandidates.{all_sources, all_orders, own_stores, store_orders, candidate, candidates_with}
use Rattle.fs_cand_listing.specs.ShowingTests.{has_outcome, are_coherent, are_atomic, shows}
use Rattle.fs_cand_listing.specs.inner.Listed.{capped, number_of_orders}
use Rattle.fs_cand_listing.specs.inner.Ordered.{orders_from, AreEachOnce}
use Rattle.fs_cand_listing.specs.inner.Tested.{all_coherent_among, all_atomic_among}
use Rattle.fs_cand_listing.specs.inner.Places.{place, count_with, numbered_with, showing_from, IsPrepared}
use Rattle.fs_cand_listing.proofs.Among.{length-even}
use Rattle.fs_cand_listing.proofs.Capped.{capped_low}
use Rattle.fs_cand_listing.proofs.Choosing.{length-products}
use Rattle.fs_cand_listing.proofs.Ordering.{number_among}
use Rattle.fs_cand_listing.proofs.Raw.{listed_parts}
use Rattle.fs_cand_listing.proofs.Stepwise.{among_at}
use Rattle.fs_cand_listing.proofs.Totals.{counted, orders_long, order_long}

-- ---- numbers

pub range_join : (i m n k : ℕ) → k ≡ m + n → range_with_len i k ≡ range_with_len i m ++ range_with_len (i + m) n
range_join i zero n k e =
    let a : k ≡ n = omega (arith, e) in
    let b : i ≡ i + 0 = omega arith in
    ap (range_with_len i) a ∙ ap (λ j. range_with_len j n) b
range_join i (suc m) n zero e = absurd (omega (arith, e))
range_join i (suc m) n (suc k) e =
    let b : i + 1 + m ≡ i + suc m = omega arith in
    ap (λ l. i ∷ l) (range_join (i + 1) m n k (omega (arith, e)) ∙ ap (λ j. range_with_len (i + 1) m ++ range_with_len j n) b)

module _ (t : Test) (traces : List Trace) where
  passes : ℕ → Bool
  passes j = shows t (numbered_with t traces j)

  pub showing_join : (i m n k : ℕ) → k ≡ m + n → showing_from t traces i k ≡ showing_from t traces i m ++ showing_from t traces (i + m) n
  showing_join i m n k e =
      ap (filter (λ j. shows t (numbered_with t traces j))) (range_join i m n k e)
      ∙ filter-append (λ j. shows t (numbered_with t traces j)) (range_with_len i m) (range_with_len (i + m) n)

  showing_one : (j : ℕ) (b : Bool) → shows t (numbered_with t traces j) ≡ b → showing_from t traces j 1 ≡ cond b (j ∷ []) []
  showing_one j true e = rw e refl
  showing_one j false e = rw e refl

  pub places_join : (runs i m n k : ℕ) (before after : List Place) → k ≡ m + n
      → before ++ map (place runs) (showing_from t traces i m) ++ map (place runs) (showing_from t traces (i + m) n)
      ≡ before ++ map (place runs) (showing_from t traces i k)
  places_join runs i m n k before after e =
      append_assoc before _ _
      ∙ ap (λ ps. before ++ ps)
      (sym (map-append (place runs) (showing_from t traces i m) (showing_from t traces (i + m) n))
      ∙ ap (map (place runs)) (sym (showing_join i m n k e)))

  -- one number more
  pub one_more : (runs i n : ℕ) (before kept : List Place) (c : Candidate) (b : Bool) → numbered_with t traces (i + n) ≡ c → shows t c ≡ b
      → kept ≡ before ++ map (place runs) (showing_from t traces i n)
      → kept ++ cond b (place runs (i + n) ∷ []) [] ≡ before ++ map (place runs) (showing_from t traces i (n + 1))
  one_more runs i n before kept c b is e so =
      ap (λ ps. ps ++ cond b (place runs (i + n) ∷ []) []) so
      ∙ ap (λ ps. before ++ map (place runs) (showing_from t traces i n) ++ ps)
      (one b ∙ ap (map (place runs)) (sym (showing_one (i + n) b (ap (shows t) is ∙ e))))
      ∙ places_join runs i n 1 (n + 1) before [] refl
    where
      one : (b : Bool) → cond b (place runs (i + n) ∷ []) [] ≡ map (place runs) (cond b ((i + n) ∷ []) [])
      one true = refl
      one false = refl

-- ---- products of numbers of orders

both_positive : (a b : ℕ) → 0 < a → 0 < b → 0 < a * b
both_positive zero b h g = absurd (omega (arith, h))
both_positive (suc a) b h g = let e : suc a * b ≡ b + a * b = suc-mul a b ∙ omega arith in omega (arith, e, g)

factorial_some : (n : ℕ) → 0 < factorial n
factorial_some zero = omega arith
factorial_some (suc n) = both_positive (n + 1) (factorial n) (omega arith) (factorial_some n)

pub orders_some : (lists : List (List ℕ)) → 0 < product_by number_of_orders lists
orders_some [] = omega arith
orders_some (ns ∷ rest) =
    both_positive (factorial (length ns)) (product_by number_of_orders rest) (factorial_some (length ns)) (orders_some rest)

right_low : (a b : ℕ) → 0 < a → b ≤ a * b
right_low zero b h = absurd (omega (arith, h))
right_low (suc a) b h = let e : suc a * b ≡ b + a * b = suc-mul a b ∙ omega arith in omega (arith, e)

left_low : (a b : ℕ) → 0 < b → a ≤ a * b
left_low a b h = let e = mul_comm a b in let l = right_low b a h in omega (arith, e, l)

-- ---- what was prepared

module _ (t : Test) (p : Prepared) (is : IsPrepared t p) where
  abbrev x : PreExecution
  x = pre_execution t (steps_in p.traces)

  abbrev ways_to_source : ℕ
  ways_to_source = product_of_lengths p.choices.sources.items

  abbrev ways_to_order : ℕ
  ways_to_order = product_by number_of_orders p.choices.stores.items

  abbrev listed_sources : List (List (Option ℕ))
  listed_sources = products p.choices.sources.items

  abbrev listed_orders : List (List (List ℕ))
  listed_orders = products (all_orders t x)

  pub whole : ways_to_source * ways_to_order ≡ count_with t p.traces
  whole = counted t (steps_in p.traces) p.choices is.choices

  pub long_orders : length listed_orders ≡ ways_to_order
  long_orders =
      length-products (all_orders t x)
      ∙ orders_long x (length t.locations) (numbers_below (length t.locations)) (order_long x)
      ∙ ap (product_by number_of_orders) (sym is.choices.stores)

  pub numbered : (s o : ℕ) → s < ways_to_source → o < ways_to_order
      → numbered_with t p.traces (s * ways_to_order + o) ≡ candidate (steps_in p.traces) (get_or listed_sources s []) (get_or listed_orders o [])
  numbered s o low below =
      let traces = steps_in p.traces in
      let here : products (all_sources x) ≡ listed_sources = ap products (sym is.choices.sources) in
      let long : length listed_sources ≡ ways_to_source = length-products p.choices.sources.items in
      let many = long_orders in
      let before : length (flat_map (λ source. map (candidate traces source) listed_orders) (take s listed_sources)) ≡ s * ways_to_order =
      length-even (λ source. map (candidate traces source) listed_orders) (length listed_orders) (take s listed_sources)
      (λ source there. length-map listed_orders (candidate traces source))
      ∙ ap (λ k. k * length listed_orders) (length-take-le s listed_sources (omega (arith, low, long)))
      ∙ ap (λ k. s * k) many in
      ap (λ ss. get_or (flat_map (λ source. map (candidate traces source) listed_orders) ss) (s * ways_to_order + o) (candidate [] [] [])) here
      ∙ ap (λ k. get_or (flat_map (λ source. map (candidate traces source) listed_orders) listed_sources) (k + o) (candidate [] [] [])) (sym before)
      ∙ get_or-flat_map (λ source. map (candidate traces source) listed_orders) listed_sources s o [] (candidate [] [] []) (omega (arith, low, long))
      (let l = length-map listed_orders (candidate traces (get_or listed_sources s [])) in omega (arith, l, many, below))
      ∙ get_or-map (candidate traces (get_or listed_sources s [])) listed_orders o [] (candidate [] [] []) (omega (arith, many, below))

  -- ---- what the code counts

  pub few_orders : count_with t p.traces ≤ most_candidates → 0 < ways_to_source → ways_to_order ≤ most_candidates
  few_orders few some = let w = whole in let l = right_low ways_to_source ways_to_order some in omega (arith, w, l, few)

  pub few_sources : count_with t p.traces ≤ most_candidates → ways_to_source ≤ most_candidates
  few_sources few = let w = whole in let l = left_low ways_to_source ways_to_order (orders_some p.choices.stores.items) in omega (arith, w, l, few)

  -- of a number below the count
  pub chosen_parts : (n count : ℕ) → count_with t p.traces ≤ most_candidates → n < count_with t p.traces → count ≡ capped ways_to_order
      → (count ≡ ways_to_order) × (0 < count) × (n / count < ways_to_source) × (n % count < ways_to_order)
  chosen_parts n count few low exact =
      let w = whole in
      let some = orders_some p.choices.stores.items in
      let sources : 0 < ways_to_source = positive ways_to_source ways_to_order (omega (arith, w, low)) in
      let same : count ≡ ways_to_order = exact ∙ capped_low ways_to_order (few_orders few sources) in
      let positive_count : 0 < count = omega (arith, same, some) in (
        same,
        positive_count,
        (div-lt_iff_lt-mul positive_count).1 (subst (λ k. n < ways_to_source * k) (sym same) (omega (arith, w, low))),
        (let l : n % count < count = omega (arith, positive_count) in omega (arith, l, same)),
      )
    where
      positive : (a b : ℕ) → 0 < a * b → 0 < a
      positive zero b h = absurd (let e : 0 * b ≡ 0 = omega arith in omega (arith, h, e))
      positive (suc a) b h = omega arith

  pub at_number : (n count : ℕ) (source : List (Option ℕ)) (orders : List (List ℕ)) → count_with t p.traces ≤ most_candidates
      → n < count_with t p.traces → count ≡ capped ways_to_order
      → source ≡ get_or listed_sources (n / count) [] → orders ≡ get_or listed_orders (n % count) []
      → candidate (steps_in p.traces) source orders ≡ numbered_with t p.traces n
  at_number n count source orders few low exact first second =
      let parts = chosen_parts n count few low exact in
      ap (λ s. candidate (steps_in p.traces) s orders) first
      ∙ ap (λ o. candidate (steps_in p.traces) (get_or listed_sources (n / count) []) o) second
      ∙ sym (numbered (n / count) (n % count) parts.2 parts.3)
      ∙ ap (λ k. numbered_with t p.traces (n / count * k + n % count)) (sym parts.0)
      ∙ ap (numbered_with t p.traces) (div-add-mod' n count)

  -- ---- the coherence orders

  from_stores : (first i n : ℕ) → first ≡ length (accesses x) + i
      → orders_from first (map (own_stores x) (range_with_len i n)) ≡ map (store_orders x) (range_with_len i n)
  from_stores first i zero e = refl
  from_stores first i (suc n) e =
      let next : first + 1 ≡ length (accesses x) + (i + 1) = omega (arith, e) in
      ap (λ f. map (λ order. f ∷ order) (orders (own_stores x i)) ∷ orders_from (first + 1) (map (own_stores x) (range_with_len (i + 1) n))) e
      ∙ ap (λ rest. store_orders x i ∷ rest) (from_stores (first + 1) (i + 1) n next)

  pub orders_are : (first : ℕ) → first ≡ p.choices.count → orders_from first p.choices.stores.items ≡ all_orders t x
  orders_are first e =
      ap (orders_from first) is.choices.stores
      ∙ from_stores first 0 (length t.locations) (let c = is.choices.count in omega (arith, e, c))

  pub stores_once : AreEachOnce p.choices.stores.items
  stores_once =
      subst AreEachOnce (sym is.choices.stores) (λ k low.
      subst AreOnce (sym (get_or-map (own_stores x) (numbers_below (length t.locations)) k 0 []
      (let long = length-map (numbers_below (length t.locations)) (own_stores x) in omega (arith, low, long))))
      (once-filter (is_store_to x (get_or (numbers_below (length t.locations)) k 0)) (numbers_below (length (accesses x)))
      (once-range 0 (length (accesses x)))))

  pub stores_low : p.choices.count + length p.choices.stores.items ≤ 56
  stores_low =
      let ops = length_operations x in
      let few = is.few in
      let same = ap length is.operations in
      let count = is.choices.count in
      let words = length-map t.locations (λ location. location.word) in
      let stores = ap length is.choices.stores in
      let mapped = length-map (numbers_below (length t.locations)) (own_stores x) in
      let numbers = length-range_with_len 0 (length t.locations) in
      omega (arith, ops, few, same, count, words, stores, mapped, numbers)

  -- ---- the tests

  module _ (sources : List (Option ℕ)) (orders : List (List ℕ)) where
    abbrev made : Candidate
    made = candidate (steps_in p.traces) sources orders

    abbrev is_consistent : Bool
    is_consistent = all_coherent_among p.operations sources orders && all_atomic_among (steps_in p.traces) p.operations sources orders

    consistent_same : is_consistent ≡ (are_coherent x made && are_atomic x made)
    consistent_same = rw is.operations refl

    pub shows_where : (a b : Bool) → a ≡ has_outcome t made → a ≡ true → b ≡ is_consistent → b ≡ shows t made
    shows_where a b e yes_a f = f ∙ consistent_same ∙ ap (λ d. d && (are_coherent x made && are_atomic x made)) (sym yes_a ∙ e)

    pub shows_not : (a : Bool) → a ≡ has_outcome t made → a ≡ false → a ≡ shows t made
    shows_not a e no_a = no_a ∙ ap (λ d. d && (are_coherent x made && are_atomic x made)) (sym no_a ∙ e)

  -- ---- going over all numbers

  row_low : (s a b : ℕ) → s < a → s * b + b ≤ a * b
  row_low s zero b low = absurd (omega (arith, low))
  row_low s (suc a) b low = elim (cases_lt s a) [
    | inl less ↦ (let rest = row_low s a b less in let e : suc a * b ≡ b + a * b = suc-mul a b ∙ omega arith in omega (arith, rest, e))
    | inr past ↦ (
        let same : s ≡ a = omega (arith, low, past) in
        let f = ap (λ k. k * b) same in
        let e : suc a * b ≡ b + a * b = suc-mul a b ∙ omega arith in
        omega (arith, e, f))
  ]

  pub order_count : (s count : ℕ) → count_with t p.traces ≤ most_candidates → s < ways_to_source → count ≡ capped ways_to_order → count ≡ ways_to_order
  order_count s count few low exact = exact ∙ capped_low ways_to_order (few_orders few (omega (arith, low)))

  pub row_fits : (s count : ℕ) → count_with t p.traces ≤ most_candidates → s < ways_to_source → count ≡ capped ways_to_order
      → s * count + count ≤ most_candidates
  row_fits s count few low exact =
      let same = order_count s count few low exact in
      let row = row_low s ways_to_source ways_to_order low in
      let w = whole in
      subst (λ k. s * k + k ≤ most_candidates) (sym same) (omega (arith, row, w, few))

  module _ (runs s o count : ℕ) (before kept : List Place) (few : count_with t p.traces ≤ most_candidates) (low : s < ways_to_source)
      (exact : count ≡ capped ways_to_order) (below : o < count) (sources : List (Option ℕ)) (orders : List (List ℕ))
      (first : sources ≡ get_or listed_sources s []) (second : orders ≡ get_or listed_orders o [])
      (so : kept ≡ before ++ map (place runs) (showing_from t p.traces (s * ways_to_order) o)) where
    same_count : count ≡ ways_to_order
    same_count = order_count s count few low exact

    is_numbered : numbered_with t p.traces (s * ways_to_order + o) ≡ candidate (steps_in p.traces) sources orders
    is_numbered =
        let same = same_count in
        numbered s o low (omega (arith, same, below))
        ∙ ap (λ ss. candidate (steps_in p.traces) ss (get_or listed_orders o [])) (sym first)
        ∙ ap (candidate (steps_in p.traces) sources) (sym second)

    pub one_shown : shows t (candidate (steps_in p.traces) sources orders) ≡ true
        → kept ++ place runs (s * count + o) ∷ [] ≡ before ++ map (place runs) (showing_from t p.traces (s * ways_to_order) (o + 1))
    one_shown yes_shown =
        ap (λ k. kept ++ place runs (s * k + o) ∷ []) same_count
        ∙ one_more t p.traces runs (s * ways_to_order) o before kept (candidate (steps_in p.traces) sources orders) true is_numbered yes_shown so

    pub one_not : shows t (candidate (steps_in p.traces) sources orders) ≡ false
        → kept ≡ before ++ map (place runs) (showing_from t p.traces (s * ways_to_order) (o + 1))
    one_not not_shown =
        sym (append-nil kept)
        ∙ one_more t p.traces runs (s * ways_to_order) o before kept (candidate (steps_in p.traces) sources orders) false is_numbered not_shown so

  pub row_whole : (runs s o count : ℕ) (before kept : List Place) → count_with t p.traces ≤ most_candidates → s < ways_to_source
      → count ≡ capped ways_to_order → o ≡ count
      → kept ≡ before ++ map (place runs) (showing_from t p.traces (s * ways_to_order) o)
      → kept ≡ before ++ map (place runs) (showing_from t p.traces (s * ways_to_order) ways_to_order)
  row_whole runs s o count before kept few low exact last so =
      so ∙ ap (λ k. before ++ map (place runs) (showing_from t p.traces (s * ways_to_order) k)) (last ∙ order_count s count few low exact)

  -- one row more
  pub row_more : (runs s : ℕ) (before kept after : List Place)
      → kept ≡ before ++ map (place runs) (showing_from t p.traces 0 (s * ways_to_order))
      → after ≡ kept ++ map (place runs) (showing_from t p.traces (s * ways_to_order) ways_to_order)
      → after ≡ before ++ map (place runs) (showing_from t p.traces 0 ((s + 1) * ways_to_order))
  row_more runs s before kept after so next =
      let from : s * ways_to_order ≡ 0 + s * ways_to_order = omega arith in
      let one : s + 1 ≡ suc s = omega arith in
      let e : suc s * ways_to_order ≡ ways_to_order + s * ways_to_order = suc-mul s ways_to_order ∙ omega arith in
      let f = ap (λ k. k * ways_to_order) one in
      next
      ∙ ap (λ ks. ks ++ map (place runs) (showing_from t p.traces (s * ways_to_order) ways_to_order)) so
      ∙ ap (λ k. before ++ map (place runs) (showing_from t p.traces 0 (s * ways_to_order)) ++ map (place runs) (showing_from t p.traces k ways_to_order)) from
      ∙ places_join t p.traces runs 0 (s * ways_to_order) ways_to_order ((s + 1) * ways_to_order) before [] (omega (arith, e, f))

  pub rows_whole : (runs s count : ℕ) (before kept : List Place) → count_with t p.traces ≤ most_candidates → count ≡ capped ways_to_source → s ≡ count
      → kept ≡ before ++ map (place runs) (showing_from t p.traces 0 (s * ways_to_order))
      → kept ≡ before ++ map (place runs) (showing_from t p.traces 0 (count_with t p.traces))
  rows_whole runs s count before kept few exact last so =
      so
      ∙ ap (λ k. before ++ map (place runs) (showing_from t p.traces 0 (k * ways_to_order))) (last ∙ exact ∙ capped_low ways_to_source (few_sources few))
      ∙ ap (λ k. before ++ map (place runs) (showing_from t p.traces 0 k)) whole

-- ---- runs whose registers rule the outcome out

none_pass : (f : ℕ → Bool) → (ns : List ℕ) → ((n : ℕ) → IsAmong ns n → f n ≡ false) → filter f ns ≡ []
none_pass f [] each = refl
none_pass f (n ∷ ns) each = rw (each n (inl refl)) (none_pass f ns (λ m there. each m (inr there)))

pub none_shown : (t : Test) (traces : List Trace)
    → ((sources : List (Option ℕ)) (orders : List (List ℕ)) → has_outcome t (candidate (steps_in traces) sources orders) ≡ false)
    → showing_from t traces 0 (count_with t traces) ≡ []
none_shown t traces never =
    none_pass (λ j. shows t (numbered_with t traces j)) (range_with_len 0 (count_with t traces)) (λ j there.
    let low = (range-has 0 (count_with t traces) j (number_among (range_with_len 0 (count_with t traces)) j there)).1 in
    let c = numbered_with t traces j in
    let parts = listed_parts t (steps_in traces) c
    (among_at (candidates_with t (steps_in traces)) j (candidate [] [] []) (omega (arith, low))) in
    ap (λ (d : Candidate). shows t d) parts.2
    ∙ ap (λ b. b && (are_coherent (runs_of t (candidate (steps_in traces) parts.0 parts.1)) (candidate (steps_in traces) parts.0 parts.1)
    && are_atomic (runs_of t (candidate (steps_in traces) parts.0 parts.1)) (candidate (steps_in traces) parts.0 parts.1))) (never parts.0 parts.1))

pub nothing_added : (runs : ℕ) (t : Test) (traces : List Trace) (before : List Place)
    → ((sources : List (Option ℕ)) (orders : List (List ℕ)) → has_outcome t (candidate (steps_in traces) sources orders) ≡ false)
    → before ≡ before ++ map (place runs) (showing_from t traces 0 (count_with t traces))
nothing_added runs t traces before never =
    sym (ap (λ js. before ++ map (place runs) js) (none_shown t traces never) ∙ append-nil before)
