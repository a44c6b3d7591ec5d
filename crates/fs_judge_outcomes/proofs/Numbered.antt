-- Items of lists with their numbers, counted from any first one.
use Rattle.std.proofs.Common.{◌≡◌, ℕ, zero, suc, ◌+◌, None, Some, List, [], ◌∷◌, length, refl, ap, subst, arith}
use Rattle.std.specs.Prelude.{slice_get}

-- each item with its number
abbrev pub Each : {X : Type 0} → (ℕ → X → Type 0) → ℕ → List X → Type 0
Each P n [] = Unit {0}
Each P n (x ∷ xs) = P n x × Each P (n + 1) xs

-- of two lists of one length the items of each number
abbrev pub Pairs : {X Y : Type 0} → (ℕ → X → Y → Type 0) → ℕ → List X → List Y → Type 0
Pairs P n [] [] = Unit {0}
Pairs P n [] (y ∷ ys) = ⊥
Pairs P n (x ∷ xs) [] = ⊥
Pairs P n (x ∷ xs) (y ∷ ys) = P n x y × Pairs P (n + 1) xs ys

module _ {X : Type 0} (P : ℕ → X → Type 0) where
  pub each_from : (n : ℕ) (xs : List X) → ((i : ℕ) (x : X) → slice_get xs i ≡ Some x → P (n + i) x) → Each P n xs
  each_from n [] all = tt
  each_from n (x ∷ xs) all = (
    (let first : n + 0 ≡ n = omega arith in subst (λ k. P k x) first (all 0 x refl)),
    each_from (n + 1) xs (λ i y at. let next : n + suc i ≡ n + 1 + i = omega arith in subst (λ k. P k y) next (all (suc i) y at)),
  )

  pub each_at : (n : ℕ) (xs : List X) → Each P n xs → (i : ℕ) (x : X) → slice_get xs i ≡ Some x → P (n + i) x
  each_at n [] all i x at = absurd (let none : None ≡ Some x = at in cc)
  each_at n (y ∷ ys) all zero x at =
      let same : y ≡ x = (let both : Some y ≡ Some x = at in cc) in
      let first : n ≡ n + 0 = omega arith in
      subst (λ k. P k x) first (subst (P n) same all.0)
  each_at n (y ∷ ys) all (suc i) x at =
      let next : n + 1 + i ≡ n + suc i = omega arith in
      subst (λ k. P k x) next (each_at (n + 1) ys all.1 i x at)

-- the item of a number in the second list of pairs
pub record Second {X Y : Type 0} (P : ℕ → X → Y → Type 0) (n i : ℕ) (x : X) (ys : List Y) : Type 0 where
  pub item : Y
  pub at : slice_get ys i ≡ Some item
  pub so : P (n + i) x item

-- and in the first one
pub record First {X Y : Type 0} (P : ℕ → X → Y → Type 0) (n i : ℕ) (xs : List X) (y : Y) : Type 0 where
  pub item : X
  pub at : slice_get xs i ≡ Some item
  pub so : P (n + i) item y

module _ {X Y : Type 0} (P : ℕ → X → Y → Type 0) where
  pub second : (n : ℕ) (xs : List X) (ys : List Y) → Pairs P n xs ys → (i : ℕ) (x : X) → slice_get xs i ≡ Some x → Second P n i x ys
  second n [] ys all i x at = absurd (let none : None ≡ Some x = at in cc)
  second n (z ∷ zs) [] all i x at = absurd all
  second n (z ∷ zs) (y ∷ ys) all zero x at =
      let same : z ≡ x = (let both : Some z ≡ Some x = at in cc) in
      let first : n ≡ n + 0 = omega arith in
      record { item = y; at = refl; so = subst (λ k. P k x y) first (subst (λ v. P n v y) same all.0) }
  second n (z ∷ zs) (y ∷ ys) all (suc i) x at =
      let rest = second (n + 1) zs ys all.1 i x at in
      let next : n + 1 + i ≡ n + suc i = omega arith in
      record { item = rest.item; at = rest.at; so = subst (λ k. P k x rest.item) next rest.so }

  pub first : (n : ℕ) (xs : List X) (ys : List Y) → Pairs P n xs ys → (i : ℕ) (y : Y) → slice_get ys i ≡ Some y → First P n i xs y
  first n xs [] all i y at = absurd (let none : None ≡ Some y = at in cc)
  first n [] (z ∷ zs) all i y at = absurd all
  first n (x ∷ xs) (z ∷ zs) all zero y at =
      let same : z ≡ y = (let both : Some z ≡ Some y = at in cc) in
      let here : n ≡ n + 0 = omega arith in
      record { item = x; at = refl; so = subst (λ k. P k x y) here (subst (P n x) same all.0) }
  first n (x ∷ xs) (z ∷ zs) all (suc i) y at =
      let rest = first (n + 1) xs zs all.1 i y at in
      let next : n + 1 + i ≡ n + suc i = omega arith in
      record { item = rest.item; at = rest.at; so = subst (λ k. P k rest.item y) next rest.so }

  pub same_length : (n : ℕ) (xs : List X) (ys : List Y) → Pairs P n xs ys → length ys ≡ length xs
  same_length n [] [] all = refl
  same_length n [] (y ∷ ys) all = absurd all
  same_length n (x ∷ xs) [] all = absurd all
  same_length n (x ∷ xs) (y ∷ ys) all = let rest = same_length (n + 1) xs ys all.1 in ap suc rest
