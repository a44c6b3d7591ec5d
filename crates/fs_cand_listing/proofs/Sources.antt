-- The sources that an operation may have are those of the list, and the list is in order.
use Rattle.std.proofs.Common.{◌≡◌, ℕ, zero, suc, ◌+◌, ◌<◌, ◌≤◌, Bool, true, false, Option, None, Some, List, [], ◌∷◌, map, filter, length, refl, ap, sym, subst, ◌∙◌, arith, inl, inr}
use Rattle.std.specs.Prelude.{not, if◌then◌else◌}
use Rattle.std.specs.List.{range_with_len}
use Rattle.std.proofs.lemmas.Bool.{false≢true, cases_lt, lt-ltb, le-ltb, and_parts, and_from, or_right, or_left}
use Rattle.fs_model.specs.Test.{address_of}
use Rattle.fs_model.specs.Numbers.{has_number, numbers_below}
use Rattle.fs_model.specs.Operations.{PreExecution, accesses, operations, operation, is_load, is_store, same_word}
use Rattle.fs_model.proofs.OptionalNumbers.{same_parts}
use Rattle.fs_model.proofs.ListedNumbers.{has-append, has-range, range-has}
use Rattle.fs_model.proofs.FilteredNumbers.{filter_has, in_filter}
use Rattle.fs_model.proofs.Pigeonhole.{IsAmong}
use Rattle.fs_model.proofs.WhichOperation.{Access, Initial, Past, which, store_there, length_operations}
use Rattle.fs_cert_evidence.specs.Candidates.{is_source, is_sourced}
use Rattle.fs_cert_evidence.specs.Listings.{source_key}
use Rattle.fs_cand_listing.specs.RawCandidates.{initial_first, sources_for}
use Rattle.fs_cand_listing.proofs.Among.{among-map, map-among, Ascends, ascends-append, ascends-map}
use Rattle.fs_cand_listing.proofs.Ordering.{Rises, among_number, number_among}

-- ---- which sources are there

module _ (x : PreExecution) (a : ℕ) where
  abbrev passing : List ℕ
  passing = filter (is_source x a) (initial_first x)

  abbrev when : Bool → List (Option ℕ)
  when loads = if loads then map (λ s. Some s) passing else None ∷ []

  numbered : (s : ℕ) → s < length (operations x) → has_number (initial_first x) s ≡ true
  numbered s low =
      let long = length_operations x in
      has-append (range_with_len (length (accesses x)) (length x.words)) (numbers_below (length (accesses x))) s
      ∙ (elim (cases_lt s (length (accesses x))) [
        | inl access ↦ or_right _ _ (has-range 0 (length (accesses x)) s (omega arith) (omega (arith, access)))
        | inr initial ↦ or_left _ _ (has-range (length (accesses x)) (length x.words) s initial (omega (arith, low, long)))
      ])

  stored : (s : ℕ) → is_source x a s ≡ true → is_store x s ≡ true
  stored s h = (and_parts _ _ (and_parts _ _ (and_parts _ _ h).0).0).0

  pub same_place : (s : ℕ) → is_source x a s ≡ true → same_word x s a ≡ true
  same_place s h = (and_parts _ _ (and_parts _ _ (and_parts _ _ h).0).0).1

  pub source_listed : (o : Option ℕ) → is_sourced x a o ≡ true → IsAmong (sources_for x a) o
  source_listed None h = by_case (is_load x a) h
    where
      by_case : (loads : Bool) → not loads ≡ true → IsAmong (when loads) None
      by_case true e = absurd (false≢true e)
      by_case false e = inl refl
  source_listed (Some s) h =
      let parts = and_parts (is_load x a) (is_source x a s) h in
      let low = store_there x s (stored s parts.1) in
      subst (λ b. IsAmong (when b) (Some s)) (sym parts.0)
      (among-map (λ n. Some n) passing s (among_number passing s (in_filter (is_source x a) (initial_first x) s (numbered s low) parts.1)))

  pub listed_source : (o : Option ℕ) → IsAmong (sources_for x a) o → is_sourced x a o ≡ true
  listed_source o p = by_case (is_load x a) refl p
    where
      by_case : (loads : Bool) → is_load x a ≡ loads → IsAmong (when loads) o → is_sourced x a o ≡ true
      by_case true e there =
          let from = map-among (λ n. Some n) passing o there in
          let passes = filter_has (is_source x a) (initial_first x) from.0 (number_among passing from.0 from.1) in
          subst (λ (p : Option ℕ). is_sourced x a p ≡ true) (sym from.2) (and_from (is_load x a) (is_source x a from.0) e passes.1)
      by_case false e there = elim there [
        | inl none ↦ subst (λ (p : Option ℕ). is_sourced x a p ≡ true) (sym none) (ap not e)
        | inr other ↦ absurd other
      ]

-- ---- in which order

pub range_rises : (i n : ℕ) → Rises (range_with_len i n)
range_rises i zero = tt
range_rises i (suc n) = (
  (λ b there. let low = range-has (i + 1) n b (number_among (range_with_len (i + 1) n) b there) in omega (arith, low.0)),
  range_rises (i + 1) n,
)

-- what passes a test is in order where any two that pass it are
ascends-filter : (f : ℕ → Bool) (R : ℕ → ℕ → Type 0) (ns : List ℕ) → Ascends (λ a b. f a ≡ true → f b ≡ true → R a b) ns
    → Ascends R (filter f ns)
ascends-filter f R [] h = tt
ascends-filter f R (n ∷ ns) h = by_case (f n) refl (ascends-filter f R ns h.1)
  where
    by_case : (kept : Bool) → f n ≡ kept → Ascends R (filter f ns) → Ascends R (if kept then n ∷ filter f ns else filter f ns)
    by_case true e rest = (
      (λ b there.
          let parts = filter_has f ns b (number_among (filter f ns) b there) in
          h.0 b (among_number ns b parts.0) e parts.1),
      rest,
    )
    by_case false e rest = rest

ascends-weaken : (R S : ℕ → ℕ → Type 0) (ns : List ℕ) → ((a b : ℕ) → IsAmong ns a → IsAmong ns b → R a b → S a b) → Ascends R ns → Ascends S ns
ascends-weaken R S [] weaker h = tt
ascends-weaken R S (n ∷ ns) weaker h = (
  (λ b there. weaker n b (inl refl) (inr there) (h.0 b there)),
  ascends-weaken R S ns (λ a b p q r. weaker a b (inr p) (inr q) r) h.1,
)

-- two initial stores of one word are one
module _ (x : PreExecution) where
  pub address_past : (s : ℕ) → length (accesses x) ≤ s → is_store x s ≡ true
      → (k : ℕ) × (s ≡ length (accesses x) + k) × ((operation x s).address ≡ Some (address_of k))
  address_past s past stores = elim (which x s) [
    | Access low ↦ absurd (omega (arith, low, past))
    | Initial k low at is ↦ (k, at, ap (λ o. o.address) is)
    | Past far is ↦ absurd (let low = store_there x s stores in omega (arith, low, far))
  ]

  pub one_initial : (a s u : ℕ) → length (accesses x) ≤ s → length (accesses x) ≤ u → is_source x a s ≡ true → is_source x a u ≡ true → s ≡ u
  one_initial a s u first second p q =
      let j = address_past s first (stored x a s p) in
      let k = address_past u second (stored x a u q) in
      let here = same_parts _ _ (same_place x a s p) in
      let there = same_parts _ _ (same_place x a u q) in
      let same : Some (address_of j.0) ≡ Some (address_of k.0) = sym j.2 ∙ here.1 ∙ sym here.2 ∙ there.2 ∙ sym there.1 ∙ k.2 in
      let numbers : address_of j.0 ≡ address_of k.0 = cc in
      omega (arith, j.1, k.1, numbers)

  abbrev pub IsSooner : Option ℕ → Option ℕ → Type 0
  IsSooner o p = source_key (length (accesses x)) o < source_key (length (accesses x)) p

  module _ (a : ℕ) where
    abbrev Sooner : ℕ → ℕ → Type 0
    Sooner s u = is_source x a s ≡ true → is_source x a u ≡ true → IsSooner (Some s) (Some u)

    key_access : (s : ℕ) → s < length (accesses x) → source_key (length (accesses x)) (Some s) ≡ s + 1
    key_access s low = ap (λ b. if b then s + 1 else 0) (lt-ltb s (length (accesses x)) low)

    key_initial : (s : ℕ) → length (accesses x) ≤ s → source_key (length (accesses x)) (Some s) ≡ 0
    key_initial s past = ap (λ b. if b then s + 1 else 0) (le-ltb s (length (accesses x)) past)

    all_ascend : Ascends Sooner (initial_first x)
    all_ascend =
        ascends-append Sooner (range_with_len (length (accesses x)) (length x.words)) (numbers_below (length (accesses x)))
        (ascends-weaken (λ s u. s < u) Sooner (range_with_len (length (accesses x)) (length x.words))
        (λ s u here there less p q.
        let low = range-has (length (accesses x)) (length x.words) s (number_among (range_with_len (length (accesses x)) (length x.words)) s here) in
        let high = range-has (length (accesses x)) (length x.words) u (number_among (range_with_len (length (accesses x)) (length x.words)) u there) in
        let same = one_initial a s u low.0 high.0 p q in
        absurd (omega (arith, same, less)))
        (range_rises (length (accesses x)) (length x.words)))
        (ascends-weaken (λ s u. s < u) Sooner (numbers_below (length (accesses x)))
        (λ s u here there less p q.
        let low = range-has 0 (length (accesses x)) s (number_among (numbers_below (length (accesses x))) s here) in
        let high = range-has 0 (length (accesses x)) u (number_among (numbers_below (length (accesses x))) u there) in
        let k = key_access s (omega (arith, low.1)) in
        let l = key_access u (omega (arith, high.1)) in
        omega (arith, k, l, less))
        (range_rises 0 (length (accesses x))))
        (λ s u here there p q.
        let low = range-has (length (accesses x)) (length x.words) s (number_among (range_with_len (length (accesses x)) (length x.words)) s here) in
        let high = range-has 0 (length (accesses x)) u (number_among (numbers_below (length (accesses x))) u there) in
        let k = key_initial s low.0 in
        let l = key_access u (omega (arith, high.1)) in
        omega (arith, k, l))

    pub sources_ascend : Ascends IsSooner (sources_for x a)
    sources_ascend = by_case (is_load x a)
      where
        by_case : (loads : Bool) → Ascends IsSooner (when x a loads)
        by_case true =
            ascends-map (λ s u. IsSooner (Some s) (Some u)) IsSooner (λ s. Some s) (λ s u h. h) (passing x a)
            (ascends-filter (is_source x a) (λ s u. IsSooner (Some s) (Some u)) (initial_first x) all_ascend)
        by_case false = ((λ y there. absurd there), tt)
