-- The numbers of all raw candidates that show the outcome.
use Rattle.std.proofs.Common.{◌≡◌, ◌∙◌, ℕ, zero, suc, ◌+◌, ◌<◌, ◌≤◌, Bool, true, false, List, [], ◌∷◌, ◌++◌, map, filter, length, take, get_or, refl, sym, ap, subst, arith, inl, inr, All}
use Rattle.std.specs.List.{flat_map, range_with_len}
use Rattle.std.proofs.lemmas.Bool.{cases_lt}
use Rattle.std.proofs.lemmas.List.{map-append, append-nil, take_more, take_all}
use Rattle.std.proofs.lemmas.List.Elements.{filter-append}
use Rattle.std.proofs.lemmas.List.Folds.{length-flat_map-take}
use Rattle.std.proofs.lemmas.Grind.{flat_map-append}
use Rattle.fs_model.specs.declared.test.Test.{Test}
use Rattle.fs_model.specs.declared.step.Step.{Step}
use Rattle.fs_model.specs.Numbers.{numbers_below}
use Rattle.fs_model.proofs.ListedNumbers.{range-has}
use Rattle.fs_model.proofs.FilteredNumbers.{filter_has}
use Rattle.fs_model.proofs.Pigeonhole.{all_among}
use Rattle.fs_hart.specs.declared.trace.Trace.{Trace}
use Rattle.fs_hart.specs.Steps.{steps_in}
use Rattle.fs_cert_evidence.specs.CandidateFaults.{most_candidates, HasTooMany}
use Rattle.fs_cert_evidence.specs.Listings.{IsListing}
use Rattle.fs_cand_listing.specs.declared.place.Place.{Place}
use Rattle.fs_cand_listing.specs.Ways.{products, product_of_lengths}
use Rattle.fs_cand_listing.specs.RawCandidates.{AreAllRuns, candidate, candidates_with, raw_candidates}
use Rattle.fs_cand_listing.specs.ShowingTests.{shows, showing_candidates}
use Rattle.fs_cand_listing.specs.inner.Places.{runs_at, place, count_with, numbered_with, candidate_at, showing_from, places_with, places_below, AreListable, IsPlace, AreKept}
use Rattle.fs_cand_listing.proofs.Among.{map-among, flat_map-among}
use Rattle.fs_cand_listing.proofs.Ordering.{number_among}
use Rattle.fs_cand_listing.proofs.Listing.{over, listing}
use Rattle.fs_cand_listing.proofs.Kept.{range_join}
use Rattle.fs_cand_listing.proofs.Totals.{steps_at, length-runs}

-- ---- the items at the numbers that pass are those that pass

module _ {A : Type 0} (p : A → Bool) (xs : List A) (d : A) where
  at : ℕ → A
  at j = get_or xs j d

  one : (j : ℕ) (b : Bool) → p (get_or xs j d) ≡ b
      → map (λ i. get_or xs i d) (filter (λ i. p (get_or xs i d)) (j ∷ [])) ≡ filter p (get_or xs j d ∷ [])
  one j true e = rw e refl
  one j false e = rw e refl

  none : filter p (take 0 xs) ≡ []
  none = by_case xs
    where
      by_case : (ys : List A) → filter p (take 0 ys) ≡ []
      by_case [] = refl
      by_case (y ∷ ys) = refl

  pub picked : (n : ℕ) → n ≤ length xs
      → map (λ j. get_or xs j d) (filter (λ j. p (get_or xs j d)) (range_with_len 0 n)) ≡ filter p (take n xs)
  picked zero low = sym none
  picked (suc n) low =
      let next : suc n ≡ n + 1 = omega arith in
      let same : 0 + n ≡ n = omega arith in
      ap (λ js. map (λ j. get_or xs j d) (filter (λ j. p (get_or xs j d)) js)) (range_join 0 n 1 (suc n) next)
      ∙ ap (map (λ j. get_or xs j d)) (filter-append (λ j. p (get_or xs j d)) (range_with_len 0 n) (range_with_len (0 + n) 1))
      ∙ map-append (λ j. get_or xs j d) (filter (λ j. p (get_or xs j d)) (range_with_len 0 n)) (filter (λ j. p (get_or xs j d)) (range_with_len (0 + n) 1))
      ∙ ap (λ ys. ys ++ map (λ j. get_or xs j d) (filter (λ j. p (get_or xs j d)) (range_with_len (0 + n) 1))) (picked n (omega (arith, low)))
      ∙ ap (λ ys. filter p (take n xs) ++ ys) (one (0 + n) (p (get_or xs (0 + n) d)) refl)
      ∙ ap (λ k. filter p (take n xs) ++ filter p (get_or xs k d ∷ [])) same
      ∙ sym (filter-append p (take n xs) (get_or xs n d ∷ []))
      ∙ ap (filter p) (sym (take_more xs n d (omega (arith, low))))
      ∙ ap (λ k. filter p (take k xs)) (sym next)

map-map : {A B C : Type 0} (g : B → C) (f : A → B) (xs : List A) → map g (map f xs) ≡ map (λ x. g (f x)) xs
map-map g f [] = refl
map-map g f (x ∷ xs) = ap (λ l. g (f x) ∷ l) (map-map g f xs)

module _ (t : Test) (lists : List (List Trace)) where
  below_more : (n : ℕ) → places_below t lists (n + 1) ≡ places_below t lists n ++ places_with t lists n
  below_more n =
      let same : 0 + n ≡ n = omega arith in
      ap (flat_map (places_with t lists)) (range_join 0 n 1 (n + 1) refl)
      ∙ flat_map-append (places_with t lists) (range_with_len 0 n) (range_with_len (0 + n) 1)
      ∙ ap (λ ps. places_below t lists n ++ ps) (append-nil (places_with t lists (0 + n)))
      ∙ ap (λ k. places_below t lists n ++ places_with t lists k) same

  pub places_more : (n : ℕ) (kept after : List Place) (traces : List Trace) → traces ≡ runs_at lists n → kept ≡ places_below t lists n
      → after ≡ kept ++ map (place n) (showing_from t traces 0 (count_with t traces)) → after ≡ places_below t lists (n + 1)
  places_more n kept after traces is so next =
      next
      ∙ ap (λ ks. ks ++ map (place n) (showing_from t traces 0 (count_with t traces))) so
      ∙ ap (λ ts. places_below t lists n ++ map (place n) (showing_from t ts 0 (count_with t ts))) is
      ∙ sym (below_more n)

  -- ---- their candidates

  picked_with : (n : ℕ) → map (candidate_at t lists) (places_with t lists n) ≡ filter (shows t) (candidates_with t (steps_in (runs_at lists n)))
  picked_with n =
      let cs = candidates_with t (steps_in (runs_at lists n)) in
      map-map (candidate_at t lists) (place n) (showing_from t (runs_at lists n) 0 (length cs))
      ∙ picked (shows t) cs (candidate [] [] []) (length cs) (omega arith)
      ∙ ap (filter (shows t)) (take_all (length cs) cs (omega arith))

  abbrev all_steps : List (List (List Step))
  all_steps = products (map steps_in lists)

  nothing_yet : [] ≡ filter (shows t) (flat_map (candidates_with t) (take 0 all_steps))
  nothing_yet = by_case all_steps
    where
      by_case : (xs : List (List (List Step))) → [] ≡ filter (shows t) (flat_map (candidates_with t) (take 0 xs))
      by_case [] = refl
      by_case (x ∷ xs) = refl

  shown_below : (n : ℕ) → n ≤ product_of_lengths lists
      → map (candidate_at t lists) (places_below t lists n) ≡ filter (shows t) (flat_map (candidates_with t) (take n all_steps))
  shown_below zero low = nothing_yet
  shown_below (suc n) low =
      let next : suc n ≡ n + 1 = omega arith in
      let long = length-runs lists in
      ap (λ k. map (candidate_at t lists) (places_below t lists k)) next
      ∙ ap (map (candidate_at t lists)) (below_more n)
      ∙ map-append (candidate_at t lists) (places_below t lists n) (places_with t lists n)
      ∙ ap (λ cs. cs ++ map (candidate_at t lists) (places_with t lists n)) (shown_below n (omega (arith, low)))
      ∙ ap (λ cs. filter (shows t) (flat_map (candidates_with t) (take n all_steps)) ++ cs) (picked_with n)
      ∙ sym (filter-append (shows t) (flat_map (candidates_with t) (take n all_steps)) (candidates_with t (steps_in (runs_at lists n))))
      ∙ ap (λ ss. filter (shows t) (flat_map (candidates_with t) (take n all_steps) ++ candidates_with t ss)) (sym (steps_at lists n (omega (arith, low))))
      ∙ ap (λ cs. filter (shows t) (flat_map (candidates_with t) (take n all_steps) ++ cs))
      (sym (append-nil (candidates_with t (get_or all_steps n []))))
      ∙ ap (filter (shows t)) (sym (flat_map-append (candidates_with t) (take n all_steps) (get_or all_steps n [] ∷ [])))
      ∙ ap (λ xs. filter (shows t) (flat_map (candidates_with t) xs)) (sym (take_more all_steps n [] (omega (arith, low, long))))
      ∙ ap (λ k. filter (shows t) (flat_map (candidates_with t) (take k all_steps))) (sym next)

  pub all_shown : map (candidate_at t lists) (places_below t lists (product_of_lengths lists)) ≡ showing_candidates t (map steps_in lists)
  all_shown =
      let long = length-runs lists in
      shown_below (product_of_lengths lists) (omega arith)
      ∙ ap (λ xs. filter (shows t) (flat_map (candidates_with t) xs)) (take_all (product_of_lengths lists) all_steps (omega (arith, long)))

  -- ---- few enough

  module _ (all : AreAllRuns t (map steps_in lists)) (few : HasTooMany t → ⊥) where
    raw_few : length (raw_candidates t (map steps_in lists)) ≤ most_candidates
    raw_few = elim (cases_lt most_candidates (length (raw_candidates t (map steps_in lists)))) [
      | inl many ↦ absurd (few (over t (map steps_in lists) all (inr many)))
      | inr fits ↦ fits
    ]

    pub few_with : (n : ℕ) → n < product_of_lengths lists → count_with t (runs_at lists n) ≤ most_candidates
    few_with n low =
        let long = length-runs lists in
        let here = length-flat_map-take (candidates_with t) all_steps n [] (omega (arith, low, long)) in
        let same = ap (λ ss. length (candidates_with t ss)) (steps_at lists n low) in
        let raw = raw_few in
        omega (arith, here, same, raw)

    pub are_places : All (IsPlace t lists) (places_below t lists (product_of_lengths lists))
    are_places = all_among (IsPlace t lists) (places_below t lists (product_of_lengths lists)) (λ p there.
        let from = flat_map-among (places_with t lists) (numbers_below (product_of_lengths lists)) p there in
        let n = from.0 in
        let low = (range-has 0 (product_of_lengths lists) n (number_among (numbers_below (product_of_lengths lists)) n from.1)).1 in
        let count = count_with t (runs_at lists n) in
        let of = map-among (place n) (showing_from t (runs_at lists n) 0 count) p from.2 in
        let j = of.0 in
        let has = filter_has (λ i. shows t (numbered_with t (runs_at lists n) i)) (range_with_len 0 count) j
        (number_among (showing_from t (runs_at lists n) 0 count) j of.1) in
        let less = (range-has 0 count j has.0).1 in
        let within : n < product_of_lengths lists = omega (arith, low) in
        subst (IsPlace t lists) (sym of.2) (record { runs = within; chosen = omega (arith, less); few = few_with n within }))

  -- ---- what is kept

  pub kept_all : (kept : List Place) → AreListable t lists → (HasTooMany t → ⊥) → kept ≡ places_below t lists (product_of_lengths lists)
      → AreKept t lists kept
  kept_all kept listable few is = record {
    listable = listable;
    places = subst (All (IsPlace t lists)) (sym is) (are_places listable.all few);
  }

  pub kept_listing : (kept : List Place) → AreListable t lists → kept ≡ places_below t lists (product_of_lengths lists)
      → IsListing t (map (candidate_at t lists) kept)
  kept_listing kept listable is =
      subst (IsListing t) (sym (ap (map (candidate_at t lists)) is ∙ all_shown)) (listing t (map steps_in lists) listable.all)
