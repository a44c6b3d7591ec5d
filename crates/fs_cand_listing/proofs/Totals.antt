-- Counting over all lists of runs.
use Rattle.std.proofs.Common.{◌≡◌, ◌∙◌, ℕ, zero, suc, ◌+◌, ◌*◌, ◌<◌, ◌≤◌, List, [], ◌∷◌, ◌++◌, map, length, take, get_or, refl, sym, ap, subst, arith, inl, inr, All}
use Rattle.std.specs.List.{sum_by}
use Rattle.std.proofs.lemmas.Bool.{cases_lt}
use Rattle.std.proofs.lemmas.List.{get_or-map, length-map, map-append, take_all, get_or_default}
use Rattle.std.proofs.lemmas.List.Sums.{sum_by-cons}
use Rattle.fs_model.specs.declared.test.Test.{Test}
use Rattle.fs_model.specs.Test.{IsBounded}
use Rattle.fs_model.specs.declared.step.Step.{Step}
use Rattle.fs_model.specs.declared.operation.Operation.{Operation}
use Rattle.fs_model.specs.Numbers.{numbers_below}
use Rattle.fs_model.specs.Operations.{PreExecution, accesses, operations, steps_of}
use Rattle.fs_model.specs.Shows.{is_store_to}
use Rattle.fs_model.proofs.ListedNumbers.{once-range}
use Rattle.fs_model.proofs.FilteredNumbers.{once-filter}
use Rattle.fs_model.specs.Execution.{pre_execution}
use Rattle.fs_model.specs.Values.{AreRunsOverValues}
use Rattle.fs_hart.specs.declared.trace.Trace.{Trace}
use Rattle.fs_hart.specs.Steps.{steps_in}
use Rattle.fs_hart.proofs.Few.{few_operations}
use Rattle.fs_hart.proofs.Forward.{traces_short}
use Rattle.fs_cert_evidence.specs.CandidateFaults.{most_candidates, HasTooMany}
use Rattle.fs_cand_listing.specs.Ways.{branches, products, product_by, product_of_lengths, orders}
use Rattle.fs_cand_listing.specs.RawCandidates.{AreAllRuns, all_sources, own_stores, store_orders, candidates_with}
use Rattle.fs_cand_listing.specs.declared.choices.Choices.{Choices}
use Rattle.fs_cand_listing.specs.inner.Chosen.{AreChoices}
use Rattle.fs_cand_listing.specs.inner.Listed.{number_of_orders}
use Rattle.fs_cand_listing.specs.inner.Totals.{capped_with}
use Rattle.fs_cand_listing.proofs.Capped.{capped_high, capped_low}
use Rattle.fs_cand_listing.proofs.Choosing.{length-products}
use Rattle.fs_cand_listing.proofs.Listing.{length-candidates, length-raw, over, not_over}
use Rattle.fs_cand_listing.proofs.Ordering.{length-orders}
use Rattle.fs_cand_listing.proofs.Raw.{listed_over, among_from}

-- ---- lists of runs, and of their steps

module _ {A B : Type 0} (f : A → B) where
  cons-map : (x : A) (yss : List (List A)) → map (λ ys. f x ∷ ys) (map (map f) yss) ≡ map (map f) (map (λ ys. x ∷ ys) yss)
  cons-map x [] = refl
  cons-map x (ys ∷ yss) = ap (λ zss. (f x ∷ map f ys) ∷ zss) (cons-map x yss)

  branches-map : (rest : List (List A)) (ys : List A)
      → branches (λ x. map (map f) rest) (map f ys) ≡ map (map f) (branches (λ x. rest) ys)
  branches-map rest [] = refl
  branches-map rest (y ∷ ys) =
      ap (λ l. l ++ branches (λ x. map (map f) rest) (map f ys)) (cons-map y rest)
      ∙ ap (λ l. map (map f) (map (λ zs. y ∷ zs) rest) ++ l) (branches-map rest ys)
      ∙ sym (map-append (map f) (map (λ zs. y ∷ zs) rest) (branches (λ x. rest) ys))

  products-map : (xss : List (List A)) → products (map (map f) xss) ≡ map (map f) (products xss)
  products-map [] = refl
  products-map (xs ∷ xss) =
      ap (λ rest. branches (λ x. rest) (map f xs)) (products-map xss) ∙ branches-map (products xss) xs

  lengths-map : (xss : List (List A)) → product_of_lengths (map (map f) xss) ≡ product_of_lengths xss
  lengths-map [] = refl
  lengths-map (xs ∷ xss) =
      ap (λ n. n * product_of_lengths (map (map f) xss)) (length-map xs f) ∙ ap (λ n. length xs * n) (lengths-map xss)

products_steps : (lists : List (List Trace)) → products (map steps_in lists) ≡ map steps_in (products lists)
products_steps lists = products-map (λ (trace : Trace). trace.steps) lists

pub steps_at : (lists : List (List Trace)) (n : ℕ) → n < product_of_lengths lists
    → get_or (products (map steps_in lists)) n [] ≡ steps_in (get_or (products lists) n [])
steps_at lists n low =
    ap (λ l. get_or l n []) (products_steps lists)
    ∙ get_or-map steps_in (products lists) n [] [] (let long = length-products lists in omega (arith, low, long))

pub length-runs : (lists : List (List Trace)) → length (products (map steps_in lists)) ≡ product_of_lengths lists
length-runs lists = length-products (map steps_in lists) ∙ lengths-map (λ (trace : Trace). trace.steps) lists

-- ---- one list of runs

module _ (t : Test) (lists : List (List Trace)) (bounded : IsBounded t) (all : AreAllRuns t (map steps_in lists)) (n : ℕ)
    (low : n < product_of_lengths lists) where
  abbrev runs : List Trace
  runs = get_or (products lists) n []

  over_values : AreRunsOverValues t (steps_in runs)
  over_values =
      let long = length-runs lists in
      subst (AreRunsOverValues t) (steps_at lists n low)
      (listed_over t (map steps_in lists) all (get_or (products (map steps_in lists)) n [])
      (among_from (products (map steps_in lists)) (get_or (products (map steps_in lists)) n []) (n, omega (arith, low, long), same)))
    where
      same : get_or (products (map steps_in lists)) n (get_or (products (map steps_in lists)) n []) ≡ get_or (products (map steps_in lists)) n []
      same = let long = length-runs lists in get_or_default (products (map steps_in lists)) n _ _ (omega (arith, low, long))

  pub harts_are : length runs ≡ length t.codes
  harts_are = sym (length-map runs (λ (trace : Trace). trace.steps)) ∙ over_values.harts

  pub few_harts : length runs ≤ 8
  few_harts = let long = harts_are in let few = bounded.harts in let starts = bounded.starts in omega (arith, long, few, starts)

  pub short_runs : All (λ trace. length trace.steps ≤ 32) runs
  short_runs hart d within =
      let long = harts_are in
      let there : hart < length t.codes = omega (arith, within, long) in
      subst (λ (steps : List Step). length steps ≤ 32) (get_or-map (λ (trace : Trace). trace.steps) runs hart d [] within)
      (traces_short t hart (steps_of (steps_in runs) hart) bounded there (over_values.runs hart there))

  pub fewer_here : (os : List Operation) → os ≡ operations (pre_execution t (steps_in runs)) → length os ≤ 56
  fewer_here os e =
      let few = few_operations t (steps_in runs) bounded over_values.harts over_values.runs in
      let same = ap length e in
      omega (arith, few, same)

  pub few_here : (os : List Operation) → os ≡ operations (pre_execution t (steps_in runs)) → length os ≤ 256
  few_here os e = let few = fewer_here os e in omega (arith, few)

-- ---- how many raw candidates

pub orders_long : (x : PreExecution) (locations : ℕ) (ns : List ℕ) → ((k : ℕ) → length (store_orders x k) ≡ number_of_orders (own_stores x k))
    → product_of_lengths (map (store_orders x) ns) ≡ product_by number_of_orders (map (own_stores x) ns)
orders_long x locations [] each = refl
orders_long x locations (k ∷ ns) each =
    ap (λ m. m * product_of_lengths (map (store_orders x) ns)) (each k)
    ∙ ap (λ m. number_of_orders (own_stores x k) * m) (orders_long x locations ns each)

pub order_long : (x : PreExecution) (k : ℕ) → length (store_orders x k) ≡ number_of_orders (own_stores x k)
order_long x k =
    length-map (orders (own_stores x k)) (λ stores. (length (accesses x) + k) ∷ stores)
    ∙ length-orders (length (own_stores x k)) (own_stores x k)
    (once-filter (is_store_to x k) (numbers_below (length (accesses x))) (once-range 0 (length (accesses x)))) refl

pub factors : (t : Test) (traces : List (List Step))
    → product_of_lengths (all_sources (pre_execution t traces))
    * product_by number_of_orders (map (own_stores (pre_execution t traces)) (numbers_below (length t.locations)))
    ≡ length (candidates_with t traces)
factors t traces =
    let x = pre_execution t traces in
    ap (λ m. product_of_lengths (all_sources x) * m) (sym (orders_long x (length t.locations) (numbers_below (length t.locations)) (order_long x)))
    ∙ sym (length-candidates t traces)

pub counted : (t : Test) (traces : List (List Step)) (c : Choices) → AreChoices (pre_execution t traces) (length t.locations) c
    → product_of_lengths c.sources.items * product_by number_of_orders c.stores.items ≡ length (candidates_with t traces)
counted t traces c are =
    let x = pre_execution t traces in
    ap (λ xs. product_of_lengths xs * product_by number_of_orders c.stores.items) are.sources
    ∙ ap (λ xs. product_of_lengths (all_sources x) * product_by number_of_orders xs) are.stores
    ∙ factors t traces

-- ---- the sum over all runs

abbrev pub sum_to : Test → List (List Trace) → ℕ → ℕ
sum_to t lists n = sum_by (λ traces. length (candidates_with t traces)) (take n (products (map steps_in lists)))

take_none : {A : Type 0} (xs : List A) → take 0 xs ≡ []
take_none [] = refl
take_none (x ∷ xs) = refl

sum_more : {A : Type 0} (f : A → ℕ) (xs : List A) (n : ℕ) (d : A) → n < length xs → sum_by f (take (suc n) xs) ≡ sum_by f (take n xs) + f (get_or xs n d)
sum_more f [] n d low = absurd (omega (arith, low))
sum_more f (x ∷ xs) zero d low =
    let first = sum_by-cons f x (take 0 xs) in
    let none = take_none xs in
    let sums = ap (sum_by f) none in
    let nothing : sum_by f [] ≡ 0 = refl in
    omega (arith, first, sums, nothing)
sum_more f (x ∷ xs) (suc n) d low =
    let first = sum_by-cons f x (take (suc n) xs) in
    let second = sum_by-cons f x (take n xs) in
    let rest = sum_more f xs n d (omega (arith, low)) in
    omega (arith, first, second, rest)

sum_within : {A : Type 0} (f : A → ℕ) (xs : List A) (n : ℕ) → sum_by f (take n xs) ≤ sum_by f xs
sum_within f [] zero = omega arith
sum_within f [] (suc n) = omega arith
sum_within f (x ∷ xs) zero = let nothing : sum_by f [] ≡ 0 = refl in omega (arith, nothing)
sum_within f (x ∷ xs) (suc n) =
    let first = sum_by-cons f x (take n xs) in
    let second = sum_by-cons f x xs in
    let rest = sum_within f xs n in
    omega (arith, first, second, rest)

module _ (t : Test) (lists : List (List Trace)) where
  pub none_yet : sum_to t lists 0 ≡ 0
  none_yet = by_case (products (map steps_in lists))
    where
      by_case : (xs : List (List (List Step))) → sum_by (λ traces. length (candidates_with t traces)) (take 0 xs) ≡ 0
      by_case [] = refl
      by_case (x ∷ xs) = refl

  next_sum : (n : ℕ) → n < product_of_lengths lists
      → sum_to t lists (suc n) ≡ sum_to t lists n + length (candidates_with t (steps_in (get_or (products lists) n [])))
  next_sum n low =
      let long = length-runs lists in
      sum_more (λ traces. length (candidates_with t traces)) (products (map steps_in lists)) n [] (omega (arith, low, long))
      ∙ ap (λ traces. sum_to t lists n + length (candidates_with t traces)) (steps_at lists n low)

  -- the sum is exact as long as it isn't past the limit
  pub total_more : (n total count : ℕ) → n < product_of_lengths lists → total ≡ sum_to t lists n → count ≡ capped_with t lists n
      → total + count ≤ most_candidates → total + count ≡ sum_to t lists (n + 1)
  total_more n total count low e k few =
      let here = length (candidates_with t (steps_in (get_or (products lists) n []))) in
      let next : suc n ≡ n + 1 = omega arith in
      let sum = next_sum n low in
      let exact : count ≡ here = (elim (cases_lt most_candidates here) [
        | inl high ↦ (let one = capped_high here high in absurd (omega (arith, one, k, few)))
        | inr fits ↦ k ∙ capped_low here fits
      ]) in
      (let s : total + count ≡ sum_to t lists (suc n) = omega (arith, e, exact, sum) in s) ∙ ap (sum_to t lists) next

  module _ (all : AreAllRuns t (map steps_in lists)) where
    pub too_many_runs : most_candidates < product_of_lengths lists → HasTooMany t
    too_many_runs many = over t (map steps_in lists) all (inl (let long = length-runs lists in omega (arith, many, long)))

    pub too_many_raw : (n total count : ℕ) → n < product_of_lengths lists → total ≡ sum_to t lists n → count ≡ capped_with t lists n
        → most_candidates < total + count → HasTooMany t
    too_many_raw n total count low e k many =
        let here = length (candidates_with t (steps_in (get_or (products lists) n []))) in
        let sum = next_sum n low in
        let whole = sum_within (λ traces. length (candidates_with t traces)) (products (map steps_in lists)) (suc n) in
        let raw = length-raw t (map steps_in lists) in
        let more : count ≤ here = (elim (cases_lt most_candidates here) [
          | inl high ↦ (let one = capped_high here high in omega (arith, one, k, high))
          | inr fits ↦ (let one = capped_low here fits in omega (arith, one, k))
        ]) in
        over t (map steps_in lists) all (inr (omega (arith, e, more, sum, whole, raw, many)))

    pub few_enough : (n total : ℕ) → product_of_lengths lists ≤ most_candidates → product_of_lengths lists ≤ n → total ≡ sum_to t lists n
        → total ≤ most_candidates → HasTooMany t → ⊥
    few_enough n total few past e low =
        let long = length-runs lists in
        let whole = ap (sum_by (λ traces. length (candidates_with t traces))) (take_all n (products (map steps_in lists)) (omega (arith, past, long))) in
        let raw = length-raw t (map steps_in lists) in
        not_over t (map steps_in lists) all (λ h. elim h [
          | inl many ↦ omega (arith, many, long, few)
          | inr many ↦ omega (arith, many, raw, whole, e, low)
        ])
