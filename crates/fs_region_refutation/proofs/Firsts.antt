-- Tables that get the number of the first item of a list at each position, item by item.
use Rattle.std.proofs.Common.{◌≡◌, ℕ, ◌+◌, ◌<◌, ◌≤◌, inl, inr, Bool, true, false, ◌&&◌, not, Option, None, Some, List, [], ◌∷◌, ◌++◌, map, length, get_or, take, replicate, refl, sym, ◌∙◌, ap, arith}
use Rattle.std.specs.Prelude.{if◌then◌else◌, cond, is_none, ◌==◌}
use Rattle.std.specs.List.{position, position_or_len}
use Rattle.std.proofs.lemmas.Bool.{cases_lt, lt-ltb, le-ltb, ne_eqb, eq-eqb, and_right}
use Rattle.std.proofs.lemmas.List.{length-append, length-take-le, ext_get_or, get_or-replicate, length-replicate, take_more}
use Rattle.std.proofs.lemmas.List.Folds.{position_or_len_push}
use Rattle.std.proofs.lemmas.List.FromFn.{length-map-range_with_len, get_or-map-range_with_len}
use Rattle.std.proofs.lemmas.List.Sums.{prefix_len-le-length}
use Rattle.fs_model.specs.Numbers.{is_same, numbers_below}
use Rattle.fs_region_refutation.specs.inner.Tables.{listed_at}
use Rattle.fs_region_refutation.proofs.Positions.{position_of}

-- ---- the first of a list that passes, with one item more

module _ {X : Type 0} (p : X → Bool) where
  found_at : (xs : List X) (k : ℕ) → position_or_len p xs ≡ k → k < length xs → position p xs ≡ Some k
  found_at xs k e low = rw (e, lt-ltb k (length xs) low) refl

  not_found : (xs : List X) (k : ℕ) → position_or_len p xs ≡ k → length xs ≤ k → position p xs ≡ None
  not_found xs k e high = rw (e, le-ltb k (length xs) high) refl

  one_more : (xs : List X) (y : X) → length (xs ++ y ∷ []) ≡ length xs + 1
  one_more xs y = length-append xs (y ∷ [])

  found_before : (xs : List X) (y : X) (k : ℕ) → position_or_len p xs ≡ k → k < length xs
      → position p (xs ++ y ∷ []) ≡ (if p y && is_none (position p xs) then Some (length xs) else position p xs)
  found_before xs y k e low =
      let long = one_more xs y in
      let before = found_at xs k e low in
      let other : (position_or_len p xs == length xs) ≡ false = ne_eqb (position_or_len p xs) (length xs) (λ same. omega (arith, e, low, same)) in
      found_at (xs ++ y ∷ []) k (position_or_len_push p xs y ∙ ap (λ b. cond b (length xs + cond (p y) 0 1) (position_or_len p xs)) other ∙ e) (omega (arith, low, long))
      ∙ sym (ap (λ o. if p y && is_none o then Some (length xs) else o) before ∙ ap (λ b. if b then Some (length xs) else Some k) (and_right (p y) false refl))

  found_last : (xs : List X) (y : X) (b : Bool) → p y ≡ b → position_or_len p xs ≡ length xs
      → position p (xs ++ y ∷ []) ≡ (if b && is_none (position p xs) then Some (length xs) else position p xs)
  found_last xs y b e last =
      let before = not_found xs (length xs) last (omega arith) in
      let here : position_or_len p (xs ++ y ∷ []) ≡ length xs + cond b 0 1 =
      position_or_len_push p xs y
      ∙ ap (λ t. cond t (length xs + cond (p y) 0 1) (position_or_len p xs)) (eq-eqb (position_or_len p xs) (length xs) last)
      ∙ ap (λ t. length xs + cond t 0 1) e in
      by_test b here ∙ sym (ap (λ o. if b && is_none o then Some (length xs) else o) before)
    where
      by_test : (b : Bool) → position_or_len p (xs ++ y ∷ []) ≡ length xs + cond b 0 1
          → position p (xs ++ y ∷ []) ≡ (if b && true then Some (length xs) else None)
      by_test true is = found_at (xs ++ y ∷ []) (length xs) (is ∙ omega arith) (let long = one_more xs y in omega (arith, long))
      by_test false is = not_found (xs ++ y ∷ []) (length xs + 1) is (let long = one_more xs y in omega (arith, long))

  pub position_more : (xs : List X) (y : X)
      → position p (xs ++ y ∷ []) ≡ (if p y && is_none (position p xs) then Some (length xs) else position p xs)
  position_more xs y = elim (cases_lt (position_or_len p xs) (length xs)) [
    | inl low ↦ found_before xs y (position_or_len p xs) refl low
    | inr high ↦ found_last xs y (p y) refl (let low = prefix_len-le-length (λ x. not (p x)) xs in omega (arith, low, high))
  ]

-- ---- the table

module _ {X : Type 0} (f : X → Option ℕ) (n : ℕ) where
  abbrev pub first_with : List X → ℕ → Option ℕ
  first_with xs at = position (λ x. is_same (f x) (Some at)) xs

  abbrev pub firsts : List X → List (Option ℕ)
  firsts xs = map (first_with xs) (numbers_below n)

  are_firsts : (xs : List X) (table : List (Option ℕ)) → length table ≡ n → ((k : ℕ) → k < n → listed_at table k ≡ first_with xs k)
      → table ≡ firsts xs
  are_firsts xs table long each =
      ext_get_or None table (firsts xs) (long ∙ sym (length-map-range_with_len (first_with xs) 0 n))
      (λ k low. let less : k < n = omega (arith, low, long) in
      each k less ∙ sym (get_or-map-range_with_len (first_with xs) 0 n k k None less (omega arith)))

  pub no_firsts : replicate n None ≡ firsts []
  no_firsts = are_firsts [] (replicate n None) (length-replicate n None) (λ k low. get_or-replicate n k None None low)

  pub firsts_more : (xs : List X) (i : ℕ) (x : X) (old new : List (Option ℕ)) → i < length xs → x ≡ get_or xs i x → old ≡ firsts (take i xs)
      → length new ≡ length old
      → ((k : ℕ) → k < length old → listed_at new k ≡ (if is_same (f x) (Some k) && is_none (listed_at old k) then Some i else listed_at old k))
      → new ≡ firsts (take (i + 1) xs)
  firsts_more xs i x old new low is before long each =
      let many : length old ≡ n = ap (λ (table : List (Option ℕ)). length table) before ∙ length-map-range_with_len (first_with (take i xs)) 0 n in
      are_firsts (take (i + 1) xs) new (long ∙ many) (λ k less.
      let was : listed_at old k ≡ first_with (take i xs) k =
      ap (λ table. listed_at table k) before ∙ get_or-map-range_with_len (first_with (take i xs)) 0 n k k None less (omega arith) in
      each k (omega (arith, less, many))
      ∙ ap (λ o. if is_same (f x) (Some k) && is_none o then Some i else o) was
      ∙ ap (λ j. if is_same (f x) (Some k) && is_none (first_with (take i xs) k) then Some j else first_with (take i xs) k) (sym (length-take-le i xs (omega (arith, low))))
      ∙ sym (position_more (λ x. is_same (f x) (Some k)) (take i xs) x)
      ∙ ap (λ ys. first_with ys k) (ap (λ y. take i xs ++ y ∷ []) is ∙ sym (take_more xs i x low)))

  -- the same of the list of what the function makes
  pub firsts_seen : (xs : List X) → map (λ at. position (λ o. is_same o (Some at)) (map f xs)) (numbers_below n) ≡ firsts xs
  firsts_seen xs =
      are_firsts xs _ (length-map-range_with_len (λ at. position (λ o. is_same o (Some at)) (map f xs)) 0 n)
      (λ k low. get_or-map-range_with_len (λ at. position (λ o. is_same o (Some at)) (map f xs)) 0 n k k None low (omega arith)
      ∙ position_of f (λ o. is_same o (Some k)) (λ x. is_same (f x) (Some k)) (λ x. refl) xs)
