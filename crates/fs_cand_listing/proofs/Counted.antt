-- How many raw candidates there are with given runs, counted from the runs' operations.
use Rattle.std.proofs.Common.{◌≡◌, ◌∙◌, ℕ, ◌+◌, ◌-◌, ◌*◌, ◌≤◌, Bool, true, false, None, Some, List, [], ◌∷◌, ◌++◌, map, filter, length, is_some, refl, sym, ap, arith}
use Rattle.std.specs.Prelude.{if◌then◌else◌}
use Rattle.std.specs.List.{range_with_len}
use Rattle.std.proofs.Math.Nat.{mul_assoc}
use Rattle.std.proofs.lemmas.List.{length-map, length-append}
use Rattle.std.proofs.lemmas.List.Elements.{filter-append}
use Rattle.fs_model.specs.declared.operation.Operation.{Operation}
use Rattle.fs_model.specs.Numbers.{numbers_below}
use Rattle.fs_model.specs.Operations.{PreExecution, accesses, operations}
use Rattle.fs_model.proofs.WhichOperation.{length_operations}
use Rattle.fs_cand_listing.specs.Ways.{product_by, product_of_lengths}
use Rattle.fs_cand_listing.specs.RawCandidates.{all_sources, own_stores}
use Rattle.fs_cand_listing.specs.inner.Listed.{numbered, is_source_among, sources_within, sources_among, own_among, number_of_sources, number_of_orders, orders_among, capped}
use Rattle.fs_cand_listing.proofs.Capped.{capped_times, capped_both}
use Rattle.fs_cand_listing.proofs.Kept.{range_join}
use Rattle.fs_cand_listing.proofs.Numbered.{all_sources_are, all_stores_are}

-- ---- products over numbers

product_append : {A : Type 0} (f : A → ℕ) (xs ys : List A) → product_by f (xs ++ ys) ≡ product_by f xs * product_by f ys
product_append f [] ys = let e : 1 * product_by f ys ≡ product_by f ys = omega arith in sym e
product_append f (x ∷ xs) ys =
    ap (λ n. f x * n) (product_append f xs ys) ∙ sym (mul_assoc (f x) (product_by f xs) (product_by f ys))

product_next : (f : ℕ → ℕ) (n : ℕ) → product_by f (range_with_len 0 (n + 1)) ≡ product_by f (range_with_len 0 n) * f n
product_next f n =
    let same : 0 + n ≡ n = omega arith in
    let one : f n * 1 ≡ f n = omega arith in
    ap (product_by f) (range_join 0 n 1 (n + 1) refl)
    ∙ product_append f (range_with_len 0 n) (range_with_len (0 + n) 1)
    ∙ ap (λ i. product_by f (range_with_len 0 n) * (f i * 1)) same
    ∙ ap (λ k. product_by f (range_with_len 0 n) * k) one

pub counted_next : (f : ℕ → ℕ) (n count : ℕ) → count ≡ capped (product_by f (range_with_len 0 n))
    → capped (count * f n) ≡ capped (product_by f (range_with_len 0 (n + 1)))
counted_next f n count e =
    ap (λ m. capped (m * f n)) e
    ∙ capped_times (product_by f (range_with_len 0 n)) (f n)
    ∙ ap capped (sym (product_next f n))

pub counted_to : (f : ℕ → ℕ) (n m count : ℕ) → n ≡ m → count ≡ capped (product_by f (range_with_len 0 n)) → count ≡ capped (product_by f (numbers_below m))
counted_to f n m count same e = e ∙ ap (λ k. capped (product_by f (range_with_len 0 k))) same

product_map : {A B : Type 0} (f : B → ℕ) (g : A → B) (xs : List A) → product_by f (map g xs) ≡ product_by (λ x. f (g x)) xs
product_map f g [] = refl
product_map f g (x ∷ xs) = ap (λ n. f (g x) * n) (product_map f g xs)

product_same : {A : Type 0} (f g : A → ℕ) → ((x : A) → f x ≡ g x) → (xs : List A) → product_by f xs ≡ product_by g xs
product_same f g same [] = refl
product_same f g same (x ∷ xs) = ap (λ n. n * product_by f xs) (same x) ∙ ap (λ n. g x * n) (product_same f g same xs)

-- ---- sources

module _ (os : List Operation) (n : ℕ) (low : n ≤ length os) where
  within_all : (a : ℕ) → length (filter (is_source_among os a) (numbers_below (length os)))
      ≡ length (sources_within os a n (length os - n) ++ sources_within os a 0 n)
  within_all a =
      let f = is_source_among os a in
      let rest = length os - n in
      let same : 0 + n ≡ n = omega arith in
      let joined : numbers_below (length os) ≡ range_with_len 0 n ++ range_with_len n rest =
      range_join 0 n rest (length os) (omega (arith, low)) ∙ ap (λ i. range_with_len 0 n ++ range_with_len i rest) same in
      let split = ap (λ ns. length (filter f ns)) joined ∙ ap length (filter-append f (range_with_len 0 n) (range_with_len n rest)) in
      let both = length-append (filter f (range_with_len 0 n)) (filter f (range_with_len n rest)) in
      let first = length-map (filter f (range_with_len 0 n)) (λ (s : ℕ). Some s) in
      let second = length-map (filter f (range_with_len n rest)) (λ (s : ℕ). Some s) in
      let all = length-append (sources_within os a n rest) (sources_within os a 0 n) in
      omega (arith, split, both, first, second, all)

  sources_counted : (a : ℕ) → number_of_sources os a ≡ length (sources_among os n a)
  sources_counted a = by_case (is_some (numbered os a).loaded)
    where
      by_case : (b : Bool) → (if b then length (filter (is_source_among os a) (numbers_below (length os))) else 1)
          ≡ length (if b then sources_within os a n (length os - n) ++ sources_within os a 0 n else None ∷ [])
      by_case true = within_all a
      by_case false = refl

-- ---- both

pub counted_raw : (x : PreExecution) (os : List Operation) (n locations sources orders count : ℕ) → os ≡ operations x → n ≡ length (accesses x)
    → sources ≡ capped (product_by (number_of_sources os) (numbers_below (length os)))
    → orders ≡ capped (product_by (orders_among os n) (numbers_below locations))
    → count ≡ capped (sources * orders)
    → count ≡ capped (product_of_lengths (all_sources x) * product_by number_of_orders (map (own_stores x) (numbers_below locations)))
counted_raw x os n locations sources orders count is long by_sources by_orders e =
    let many = length_operations x in
    let same = ap length is in
    let low : n ≤ length os = omega (arith, long, many, same) in
    e
    ∙ ap (λ s. capped (s * orders)) by_sources
    ∙ ap (λ o. capped (capped (product_by (number_of_sources os) (numbers_below (length os))) * o)) by_orders
    ∙ capped_both (product_by (number_of_sources os) (numbers_below (length os))) (product_by (orders_among os n) (numbers_below locations))
    ∙ ap (λ s. capped (s * product_by (orders_among os n) (numbers_below locations)))
    (product_same (number_of_sources os) (λ a. length (sources_among os n a)) (sources_counted os n low) (numbers_below (length os))
    ∙ sym (product_map length (sources_among os n) (numbers_below (length os)))
    ∙ ap product_of_lengths (all_sources_are x os n is long))
    ∙ ap (λ o. capped (product_of_lengths (all_sources x) * o))
    (sym (product_map number_of_orders (own_among os n) (numbers_below locations))
    ∙ ap (product_by number_of_orders) (all_stores_are x os n locations is long))
