-- The raw candidates that pass the tests are the listing of the definitions; and how many raw ones there are.
use Rattle.std.proofs.Common.{◌≡◌, ◌≢◌, ℕ, ◌*◌, ◌<◌, Bool, true, false, List, [], ◌∷◌, map, length, refl, ap, sym, ◌∙◌, arith, inl, inr}
use Rattle.std.specs.Prelude.{filter, if◌then◌else◌}
use Rattle.std.specs.List.{AllPairs, Contains, sum_by}
use Rattle.std.proofs.lemmas.Bool.{false≢true}
use Rattle.std.proofs.lemmas.List.{length-map}
use Rattle.std.proofs.lemmas.List.Kept.{AllPairs-filter}
use Rattle.std.proofs.lemmas.List.Concat.{length-flat_map}
use Rattle.fs_model.specs.declared.test.Test.{Test}
use Rattle.fs_model.specs.declared.step.Step.{Step}
use Rattle.fs_model.specs.Execution.{pre_execution}
use Rattle.fs_model.specs.TooMany.{AreMoreThan}
use Rattle.fs_model.specs.Values.{AreRunsOverValues}
use Rattle.fs_model.proofs.Pigeonhole.{IsAmong, each_among, all_among, no_more}
use Rattle.fs_cert_evidence.specs.Candidates.{Candidate, IsRaw, IsShowing}
use Rattle.fs_cert_evidence.specs.Listings.{IsListing, AreEarlier, Precedes}
use Rattle.fs_cert_evidence.specs.CandidateFaults.{HasTooMany, most_candidates}
use Rattle.fs_cand_listing.specs.Ways.{products, product_of_lengths}
use Rattle.fs_cand_listing.specs.RawCandidates.{AreAllRuns, all_sources, all_orders, candidate, candidates_with, raw_candidates, AreOver}
use Rattle.fs_cand_listing.specs.ShowingTests.{shows, showing_candidates}
use Rattle.fs_cand_listing.proofs.Among.{Ascends, pairs_ascend, length-even}
use Rattle.fs_cand_listing.proofs.Choosing.{length-products}
use Rattle.fs_cand_listing.proofs.Raw.{among_from, contains_from, runs_listed, listed_over, raw_listed, listed_raw}
use Rattle.fs_cand_listing.proofs.Rising.{raw_rise, runs_rise, not_itself, other_runs}
use Rattle.fs_cand_listing.proofs.ShowingTests.{passing_shows, showing_passes}

among-filter : {A : Type 0} (f : A → Bool) (xs : List A) (z : A) → IsAmong xs z → f z ≡ true → IsAmong (filter f xs) z
among-filter f [] z p passes = absurd p
among-filter f (x ∷ xs) z p passes = by_case (f x) refl (λ later. among-filter f xs z later passes) p
  where
    by_case : (kept : Bool) → f x ≡ kept → (IsAmong xs z → IsAmong (filter f xs) z) → IsAmong (x ∷ xs) z
        → IsAmong (if kept then x ∷ filter f xs else filter f xs) z
    by_case true e rest q = elim q [ inl same ↦ inl same | inr later ↦ inr (rest later) ]
    by_case false e rest q = elim q [
      | inl same ↦ absurd (false≢true (sym e ∙ ap f (sym same) ∙ passes))
      | inr later ↦ rest later
    ]

filter-among : {A : Type 0} (f : A → Bool) (xs : List A) (z : A) → IsAmong (filter f xs) z → IsAmong xs z × (f z ≡ true)
filter-among f [] z p = absurd p
filter-among f (x ∷ xs) z p = by_case (f x) refl (filter-among f xs z) p
  where
    by_case : (kept : Bool) → f x ≡ kept → (IsAmong (filter f xs) z → IsAmong xs z × (f z ≡ true))
        → IsAmong (if kept then x ∷ filter f xs else filter f xs) z → IsAmong (x ∷ xs) z × (f z ≡ true)
    by_case true e rest q = elim q [
      | inl same ↦ (inl same, ap f same ∙ e)
      | inr later ↦ (let from = rest later in (inr from.0, from.1))
    ]
    by_case false e rest q = let from = rest q in (inr from.0, from.1)

-- more of a kind than n, where a list has all of the kind, each once
module _ {A : Type 0} (P : A → Type 0) (xs : List A) (each : (z : A) → IsAmong xs z → P z) (whole : (z : A) → P z → IsAmong xs z) where
  more_from : (n : ℕ) → AllPairs (λ x y. x ≢ y) xs → n < length xs → AreMoreThan n P
  more_from n differ many = (xs, differ, all_among P xs each, many)

  more_than : (n : ℕ) → AreMoreThan n P → n < length xs
  more_than n (ys, differ, all, many) =
      let fits = no_more ys xs differ (λ z there. whole z (each_among P ys z all there)) in
      omega (arith, fits, many)

-- ---- lengths

pub length-candidates : (t : Test) (traces : List (List Step))
    → length (candidates_with t traces)
    ≡ product_of_lengths (all_sources (pre_execution t traces)) * product_of_lengths (all_orders t (pre_execution t traces))
length-candidates t traces =
    let x = pre_execution t traces in
    length-even (λ source. map (candidate traces source) (products (all_orders t x))) (length (products (all_orders t x))) (products (all_sources x))
    (λ source there. length-map (products (all_orders t x)) (candidate traces source))
    ∙ ap (λ n. n * length (products (all_orders t x))) (length-products (all_sources x))
    ∙ ap (λ n. product_of_lengths (all_sources x) * n) (length-products (all_orders t x))

pub length-raw : (t : Test) (lists : List (List (List Step)))
    → length (raw_candidates t lists) ≡ sum_by (λ traces. length (candidates_with t traces)) (products lists)
length-raw t lists = length-flat_map (candidates_with t) (products lists)

module _ (t : Test) (lists : List (List (List Step))) (runs : AreAllRuns t lists) where
  -- ---- the listing

  pub listing : IsListing t (showing_candidates t lists)
  listing = record {
    rising = AllPairs-filter (Precedes t) (shows t) (raw_candidates t lists)
        (pairs_ascend (Precedes t) (raw_candidates t lists) (raw_rise t lists runs));
    exact = λ c. (shown c, listed c);
  }
    where
      shown : (c : Candidate) → Contains (showing_candidates t lists) c → IsShowing t c
      shown c there =
          let from = filter-among (shows t) (raw_candidates t lists) c (among_from (showing_candidates t lists) c there) in
          passing_shows t c (listed_raw t lists runs c from.0) from.1

      listed : (c : Candidate) → IsShowing t c → Contains (showing_candidates t lists) c
      listed c h =
          contains_from (showing_candidates t lists) c
          (among-filter (shows t) (raw_candidates t lists) c (raw_listed t lists runs c h.raw) (showing_passes t c h.raw h))

  -- ---- too many

  differing : {A : Type 0} (R : A → A → Type 0) (xs : List A) → ((x y : A) → R x y → x ≢ y) → Ascends R xs → AllPairs (λ x y. x ≢ y) xs
  differing R xs differ rise = λ i j d before within. differ _ _ (pairs_ascend R xs rise i j d before within)

  many_runs : most_candidates < length (products lists) → HasTooMany t
  many_runs many =
      inl (more_from (AreRunsOverValues t) (products lists) (listed_over t lists runs) (runs_listed t lists runs) most_candidates
      (differing AreEarlier (products lists) other_runs (runs_rise t lists runs)) many)

  many_raw : most_candidates < length (raw_candidates t lists) → HasTooMany t
  many_raw many =
      inr (more_from (IsRaw t) (raw_candidates t lists) (listed_raw t lists runs) (raw_listed t lists runs) most_candidates
      (differing (Precedes t) (raw_candidates t lists) (not_itself t) (raw_rise t lists runs)) many)

  pub over : AreOver t lists → HasTooMany t
  over h = elim h [ inl many ↦ many_runs many | inr many ↦ many_raw many ]

  pub not_over : (AreOver t lists → ⊥) → HasTooMany t → ⊥
  not_over few h = elim h [
    | inl many ↦ few (inl (more_than (AreRunsOverValues t) (products lists) (listed_over t lists runs) (runs_listed t lists runs) most_candidates many))
    | inr many ↦ few (inr (more_than (IsRaw t) (raw_candidates t lists) (listed_raw t lists runs) (raw_listed t lists runs) most_candidates many))
  ]
