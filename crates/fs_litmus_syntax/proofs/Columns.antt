-- The cells of a column stand as many cells apart as there are columns.
use Rattle.std.proofs.Common.{◌≡◌, ℕ, ◌+◌, ◌-◌, ◌<◌, ◌≤◌, zero, suc, List, [], ◌∷◌, ◌++◌, length, take, drop, get_or, ◌⊎◌, inl, inr, Bool, true, false, ltb, ltb-true, refl, sym, ap, ◌∙◌, subst, append_assoc, arith, length-drop, get_or-drop}
use Rattle.std.proofs.lemmas.List.{append_cancel_left, take-append-drop, drop-drop, at_drop_more, get_or-take, length-take-le}
use Rattle.std.proofs.lemmas.List.{get_or-map, length-map, map-append}
use Rattle.std.proofs.lemmas.Bool.Decides.{nat_tests}
use Rattle.std.specs.Borrow.{Bor}
use Rattle.fs_litmus_tokens.specs.declared.token.Token.{Token}
use Rattle.fs_litmus_tokens.specs.Tokens.{views}
use Rattle.fs_litmus_syntax.specs.Body.{Cell, cells_of, flatten, rows_from, rows_of, column_of}

side : (n m : ℕ) (b : Bool) → ltb n m ≡ b → (m ≤ n) ⊎ (n < m)
side n m true e = inr (ltb-true n m e)
side n m false e = let h : m ≤ n = grind (arith, nat_tests) in inl h

module _ {X : Type 0} where
  row_next : (n left : ℕ) (r xs : List X) → left < length xs → rows_from n left r xs ≡ (r ++ take (suc left) xs) ∷ rows_from n n [] (drop (suc left) xs)
  row_next n left r [] h = absurd (omega arith)
  row_next n zero r (x ∷ xs) h = refl
  row_next n (suc left) r (x ∷ xs) h =
      row_next n left (r ++ x ∷ []) xs (omega arith)
      ∙ ap (λ z. z ∷ rows_from n n [] (drop (suc left) xs)) (append_assoc r (x ∷ []) (take (suc left) xs))

  row_short : (n left : ℕ) (r xs : List X) → length xs ≤ left → rows_from n left r xs ≡ []
  row_short n left r [] h = refl
  row_short n zero r (x ∷ xs) h = absurd (omega arith)
  row_short n (suc left) r (x ∷ xs) h = row_short n left (r ++ x ∷ []) xs (omega arith)

  module _ (c : ℕ) (some : 0 < c) where
    first_row : (xs : List X) → c ≤ length xs → rows_of c xs ≡ take c xs ∷ rows_of c (drop c xs)
    first_row xs h =
        let one : suc (c - 1) ≡ c = omega arith in
        row_next (c - 1) (c - 1) [] xs (omega arith)
        ∙ ap (λ k. take k xs ∷ rows_from (c - 1) (c - 1) [] (drop k xs)) one

    short : (xs : List X) → length xs < c → rows_of c xs ≡ []
    short xs h = row_short (c - 1) (c - 1) [] xs (omega arith)

    full_or : (xs : List X) → 0 < length xs → xs ≡ flatten (rows_of c xs) → (c ≤ length xs) ⊎ (length xs < c) → c ≤ length xs
    full_or xs h w (inl long) = long
    full_or xs h w (inr few) = let none = ap length (w ∙ ap flatten (short xs few)) in absurd (omega arith)

    -- where no cell is left over, the first row is full
    full : (xs : List X) → 0 < length xs → xs ≡ flatten (rows_of c xs) → c ≤ length xs
    full xs h w = full_or xs h w (side (length xs) c (ltb (length xs) c) refl)

    whole_rest : (xs : List X) → c ≤ length xs → xs ≡ flatten (rows_of c xs) → drop c xs ≡ flatten (rows_of c (drop c xs))
    whole_rest xs h w =
        append_cancel_left (take c xs) (drop c xs) (flatten (rows_of c (drop c xs))) (take-append-drop c xs ∙ w ∙ ap flatten (first_row xs h))

    one_cell : (h : ℕ) (xs : List X) (d : X) → h < c → c ≤ length xs → take 1 (drop h (take c xs)) ≡ get_or xs h d ∷ []
    one_cell h xs d within long =
        let room : h < length (take c xs) = omega (arith, length-take-le c xs long) in
        at_drop_more (λ l. take 1 l) (take c xs) h d room ∙ ap (λ x. x ∷ []) (get_or-take c xs h d within)

    column_next : (h : ℕ) (xs : List X) (d : X) → h < c → c ≤ length xs → column_of h (rows_of c xs) ≡ get_or xs h d ∷ column_of h (rows_of c (drop c xs))
    column_next h xs d within long =
        ap (column_of h) (first_row xs long)
        ∙ ap (λ l. l ++ column_of h (rows_of c (drop c xs))) (one_cell h xs d within long)

    -- one row on
    pub room_on : (xs : List X) (at : ℕ) → at < length xs → drop at xs ≡ flatten (rows_of c (drop at xs)) → at + c ≤ length xs
    room_on xs at h w =
        let long = full (drop at xs) (omega (arith, length-drop at xs)) w in
        omega (arith, length-drop at xs, long)

    pub whole_on : (xs : List X) (at : ℕ) → at < length xs → drop at xs ≡ flatten (rows_of c (drop at xs)) → drop (at + c) xs ≡ flatten (rows_of c (drop (at + c) xs))
    whole_on xs at h w =
        let long = full (drop at xs) (omega (arith, length-drop at xs)) w in
        subst (λ l. l ≡ flatten (rows_of c l)) (drop-drop c at xs) (whole_rest (drop at xs) long w)

    pub column_on : (xs out all : List X) (at h : ℕ) (d : X) → h < c → at < length xs → drop at xs ≡ flatten (rows_of c (drop at xs)) → out ++ column_of h (rows_of c (drop at xs)) ≡ all → (out ++ get_or xs (at + h) d ∷ []) ++ column_of h (rows_of c (drop (at + c) xs)) ≡ all
    column_on xs out all at h d within below w e =
        let long = full (drop at xs) (omega (arith, length-drop at xs)) w in
        let item = get_or-drop at xs h d in
        append_assoc out (get_or xs (at + h) d ∷ []) (column_of h (rows_of c (drop (at + c) xs)))
        ∙ ap (λ l. out ++ get_or xs (at + h) d ∷ column_of h (rows_of c l)) (sym (drop-drop c at xs))
        ∙ ap (λ x. out ++ x ∷ column_of h (rows_of c (drop c (drop at xs)))) (sym item)
        ∙ ap (λ l. out ++ l) (sym (column_next h (drop at xs) d within long))
        ∙ e

module _ (items : List (Bor (List Token))) (c at : ℕ) (some : 0 < c) where
  -- the row is full
  pub row_fits : at < length items → drop at (cells_of items) ≡ flatten (rows_of c (drop at (cells_of items))) → at + c ≤ length items
  row_fits h w =
      let same = length-map items (λ (x : Bor (List Token)). views x.now) in
      let long = room_on c some (cells_of items) at (omega (arith, same)) w in
      omega (arith, same, long)

  pub rest_fits : at < length items → drop at (cells_of items) ≡ flatten (rows_of c (drop at (cells_of items))) → drop (at + c) (cells_of items) ≡ flatten (rows_of c (drop (at + c) (cells_of items)))
  rest_fits h w =
      let same = length-map items (λ (x : Bor (List Token)). views x.now) in
      whole_on c some (cells_of items) at (omega (arith, same)) w

  pub cells_on : (out new : List (Bor (List Token))) (all : List Cell) (h : ℕ) (x : Bor (List Token)) → h < c → at < length items → drop at (cells_of items) ≡ flatten (rows_of c (drop at (cells_of items))) → cells_of out ++ column_of h (rows_of c (drop at (cells_of items))) ≡ all → x ≡ get_or items (at + h) x → new ≡ out ++ x ∷ [] → cells_of new ++ column_of h (rows_of c (drop (at + c) (cells_of items))) ≡ all
  cells_on out new all h x within below w e is pushed =
      let same = length-map items (λ (y : Bor (List Token)). views y.now) in
      let fits = row_fits below w in
      let item = get_or-map (λ (y : Bor (List Token)). views y.now) items (at + h) x (views x.now) (omega (arith, fits)) in
      let one : cells_of new ≡ cells_of out ++ get_or (cells_of items) (at + h) (views x.now) ∷ [] =
      ap cells_of pushed ∙ map-append (λ (y : Bor (List Token)). views y.now) out (x ∷ []) ∙ ap (λ y. cells_of out ++ views y.now ∷ []) is ∙ ap (λ y. cells_of out ++ y ∷ []) (sym item) in
      ap (λ l. l ++ column_of h (rows_of c (drop (at + c) (cells_of items)))) one
      ∙ column_on c some (cells_of items) (cells_of out) all at h (views x.now) within (omega (arith, same)) w e
