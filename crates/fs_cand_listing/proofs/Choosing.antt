-- One item of each list.
use Rattle.std.proofs.Common.{◌≡◌, ℕ, zero, suc, ◌+◌, ◌*◌, ◌<◌, List, [], ◌∷◌, map, length, refl, ap, sym, subst, ◌∙◌, arith, inl, inr}
use Rattle.std.specs.List.{slice_index_or, range_with_len}
use Rattle.fs_cand_listing.specs.Ways.{products, product_of_lengths}
use Rattle.fs_model.proofs.Pigeonhole.{IsAmong}
use Rattle.fs_cand_listing.proofs.Among.{among-branches, branches-among, length-branches, Ascends, ascends-branches}

-- each item is one of the list at its place
abbrev pub AreTaken : {A : Type 0} → List (List A) → List A → Type 0
AreTaken [] [] = Unit {0}
AreTaken [] (y ∷ ys) = ⊥
AreTaken (xs ∷ xss) [] = ⊥
AreTaken (xs ∷ xss) (y ∷ ys) = IsAmong xs y × AreTaken xss ys

module _ {A : Type 0} where
  pub taken_listed : (xss : List (List A)) (ys : List A) → AreTaken xss ys → IsAmong (products xss) ys
  taken_listed [] [] taken = inl refl
  taken_listed [] (y ∷ ys) taken = absurd taken
  taken_listed (xs ∷ xss) [] taken = absurd taken
  taken_listed (xs ∷ xss) (y ∷ ys) taken =
      among-branches (λ x. products xss) xs y ys taken.0 (taken_listed xss ys taken.1)

  pub listed_taken : (xss : List (List A)) (ys : List A) → IsAmong (products xss) ys → AreTaken xss ys
  listed_taken [] ys listed = elim listed [ inl none ↦ subst (AreTaken []) (sym none) tt | inr other ↦ absurd other ]
  listed_taken (xs ∷ xss) ys listed =
      let parts = branches-among (λ x. products xss) xs ys listed in
      subst (AreTaken (xs ∷ xss)) (sym parts.2) (parts.3, listed_taken xss parts.1 parts.4)

  pub length-products : (xss : List (List A)) → length (products xss) ≡ product_of_lengths xss
  length-products [] = refl
  length-products (xs ∷ xss) =
      length-branches (λ x. products xss) (length (products xss)) xs (λ x there. refl)
      ∙ ap (λ n. length xs * n) (length-products xss)

  pub products_ascend : (R : A → A → Type 0) (S : List A → List A → Type 0)
      → ((x y : A) (xs ys : List A) → R x y → S (x ∷ xs) (y ∷ ys))
      → ((x : A) (xs ys : List A) → S xs ys → S (x ∷ xs) (x ∷ ys))
      → (xss : List (List A)) → ((xs : List A) → IsAmong xss xs → Ascends R xs) → Ascends S (products xss)
  products_ascend R S first later [] each = ((λ y there. absurd there), tt)
  products_ascend R S first later (xs ∷ xss) each =
      ascends-branches R S (λ x. products xss) first later xs (each xs (inl refl))
      (λ x there. products_ascend R S first later xss (λ ys among. each ys (inr among)))

  -- lists by number: one item of each
  pub taken_by_number : (f : ℕ → List A) (d : A) (i n : ℕ) (ys : List A) → length ys ≡ n
      → ((k : ℕ) → k < n → IsAmong (f (i + k)) (slice_index_or ys k d)) → AreTaken (map f (range_with_len i n)) ys
  taken_by_number f d i zero [] long each = tt
  taken_by_number f d i zero (y ∷ ys) long each = absurd (omega (arith, long))
  taken_by_number f d i (suc n) [] long each = absurd (omega (arith, long))
  taken_by_number f d i (suc n) (y ∷ ys) long each = (
    (let here : i + 0 ≡ i = omega arith in subst (λ k. IsAmong (f k) y) here (each 0 (omega arith))),
    taken_by_number f d (i + 1) n ys (omega (arith, long)) (λ k low.
        let next : i + suc k ≡ i + 1 + k = omega arith in
        subst (λ m. IsAmong (f m) (slice_index_or ys k d)) next (each (suc k) (omega (arith, low)))),
  )

  pub number_taken : (f : ℕ → List A) (d : A) (i n : ℕ) (ys : List A) → AreTaken (map f (range_with_len i n)) ys
      → (length ys ≡ n) × ((k : ℕ) → k < n → IsAmong (f (i + k)) (slice_index_or ys k d))
  number_taken f d i zero [] taken = (refl, λ k low. absurd (omega (arith, low)))
  number_taken f d i zero (y ∷ ys) taken = absurd taken
  number_taken f d i (suc n) [] taken = absurd taken
  number_taken f d i (suc n) (y ∷ ys) taken =
      let rest = number_taken f d (i + 1) n ys taken.1 in
      (omega (arith, rest.0), λ k low. at k low taken.0 rest.1)
    where
      at : (k : ℕ) → k < suc n → IsAmong (f i) y → ((j : ℕ) → j < n → IsAmong (f (i + 1 + j)) (slice_index_or ys j d))
          → IsAmong (f (i + k)) (slice_index_or (y ∷ ys) k d)
      at zero low here later = let same : i ≡ i + 0 = omega arith in subst (λ m. IsAmong (f m) y) same here
      at (suc k) low here later =
          let next : i + 1 + k ≡ i + suc k = omega arith in
          subst (λ m. IsAmong (f m) (slice_index_or ys k d)) next (later k (omega (arith, low)))

  -- the same where the lists are given
  pub taken_by_index : (d : A) (xss : List (List A)) (ys : List A) → length ys ≡ length xss
      → ((k : ℕ) → k < length xss → IsAmong (slice_index_or xss k []) (slice_index_or ys k d)) → AreTaken xss ys
  taken_by_index d [] [] long each = tt
  taken_by_index d [] (y ∷ ys) long each = absurd (omega (arith, long))
  taken_by_index d (xs ∷ xss) [] long each = absurd (omega (arith, long))
  taken_by_index d (xs ∷ xss) (y ∷ ys) long each = (
    each 0 (omega arith),
    taken_by_index d xss ys (omega (arith, long)) (λ k low. each (suc k) (omega (arith, low))),
  )

  pub index_taken : (d : A) (xss : List (List A)) (ys : List A) → AreTaken xss ys
      → (length ys ≡ length xss) × ((k : ℕ) → k < length xss → IsAmong (slice_index_or xss k []) (slice_index_or ys k d))
  index_taken d [] [] taken = (refl, λ k low. absurd (omega (arith, low)))
  index_taken d [] (y ∷ ys) taken = absurd taken
  index_taken d (xs ∷ xss) [] taken = absurd taken
  index_taken d (xs ∷ xss) (y ∷ ys) taken =
      let rest = index_taken d xss ys taken.1 in
      (omega (arith, rest.0), λ k low. at k low taken.0 rest.1)
    where
      at : (k : ℕ) → k < suc (length xss) → IsAmong xs y
          → ((j : ℕ) → j < length xss → IsAmong (slice_index_or xss j []) (slice_index_or ys j d))
          → IsAmong (slice_index_or (xs ∷ xss) k []) (slice_index_or (y ∷ ys) k d)
      at zero low here later = here
      at (suc k) low here later = later k (omega (arith, low))
