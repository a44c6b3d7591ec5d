-- Store orders by number, one store after the other.
use Rattle.std.proofs.Common.{◌≡◌, ◌∙◌, ℕ, zero, suc, ◌+◌, ◌-◌, ◌*◌, ◌/◌, ◌%◌, ◌<◌, ◌≤◌, List, [], ◌∷◌, ◌++◌, map, length, take, get_or, refl, sym, ap, subst, arith, append_assoc, inl, inr}
use Rattle.std.specs.Prelude.{Result, OnOk}
use Rattle.std.specs.List.{flat_map}
use Rattle.std.proofs.Math.Nat.{div-lt_iff_lt-mul, mul-suc}
use Rattle.std.proofs.lemmas.Nat.{div-add-mod'}
use Rattle.std.proofs.lemmas.List.{length-take-le, length-map, get_or-map}
use Rattle.std.proofs.lemmas.List.Concat.{get_or-flat_map}
use Rattle.fs_model.proofs.ListedNumbers.{AreOnce}
use Rattle.fs_model.proofs.Pigeonhole.{IsAmong}
use Rattle.fs_cert_evidence.specs.CandidateFaults.{most_candidates}
use Rattle.fs_cand_listing.specs.Ways.{others, orders_of, orders, products, product_by, product_of_lengths, factorial}
use Rattle.fs_cand_listing.specs.inner.Listed.{capped, number_of_orders}
use Rattle.fs_cand_listing.specs.inner.Ordered.{orders_from, AreEachOnce}
use Rattle.fs_cand_listing.proofs.Capped.{capped_low}
use Rattle.fs_cand_listing.proofs.Among.{length-even}
use Rattle.fs_cand_listing.proofs.Ordering.{number_among, others_once, length-others, length-orders}
use Rattle.fs_cand_listing.proofs.Unranked.{both_some, digit_low, rest_low, factor_low, product_at, on_ok}

pub among_at : {A : Type 0} (xs : List A) (k : ℕ) (d : A) → k < length xs → IsAmong xs (get_or xs k d)
among_at [] k d low = absurd (omega (arith, low))
among_at (x ∷ xs) zero d low = inl refl
among_at (x ∷ xs) (suc k) d low = inr (among_at xs k d (omega (arith, low)))

among_take : {A : Type 0} (xs : List A) (k : ℕ) (x : A) → IsAmong (take k xs) x → IsAmong xs x
among_take [] zero x p = absurd p
among_take [] (suc k) x p = absurd p
among_take (y ∷ ys) zero x p = absurd p
among_take (y ∷ ys) (suc k) x p = elim p [ inl same ↦ inl same | inr later ↦ inr (among_take ys k x later) ]

-- the item of a number, where each piece has m items
get-among : {A B : Type 0} (f : A → List B) (m n : ℕ) (xs : List A) (e : A) (d : B) → ((x : A) → IsAmong xs x → length (f x) ≡ m) → 0 < m
    → n < length xs * m → get_or (flat_map f xs) n d ≡ get_or (f (get_or xs (n / m) e)) (n % m) d
get-among f m n xs e d even some low =
    let q = n / m in
    let r = n % m in
    let high : q < length xs = (div-lt_iff_lt-mul some).1 low in
    let whole : q * m + r ≡ n = div-add-mod' n m in
    let before : length (flat_map f (take q xs)) ≡ length (take q xs) * m =
    length-even f m (take q xs) (λ x there. even x (among_take xs q x there)) in
    let taken : length (take q xs) ≡ q = length-take-le q xs (omega (arith, high)) in
    let start : length (flat_map f (take q xs)) + r ≡ n = ap (λ k. k + r) (before ∙ ap (λ k. k * m) taken) ∙ whole in
    ap (λ k. get_or (flat_map f xs) k d) (sym start)
    ∙ get_or-flat_map f xs q r e d high (let long = even (get_or xs q e) (among_at xs q e high) in let l : r < m = omega (arith, some) in omega (arith, long, l))

-- ---- one location

-- the first store of an order, and then the order of the others
module _ (ns : List ℕ) (once : AreOnce ns) (some : 0 < length ns) (number count : ℕ) (counted : count ≡ capped (factorial (length ns - 1)))
    (few : factorial (length ns) ≤ most_candidates) (low : number < factorial (length ns)) where
  long : suc (length ns - 1) ≡ length ns
  long = omega (arith, some)

  whole : factorial (length ns) ≡ length ns * factorial (length ns - 1)
  whole =
      let e = long in
      sym (ap factorial e) ∙ ap (λ k. k * factorial (length ns - 1)) (let s : length ns - 1 + 1 ≡ length ns = omega (arith, some) in s)

  below : number < length ns * factorial (length ns - 1)
  below = subst (λ k. number < k) whole low

  exact : count ≡ factorial (length ns - 1)
  exact =
      counted
      ∙ capped_low (factorial (length ns - 1))
      (let fits = factor_low (length ns) (factorial (length ns - 1)) number below in let w = whole in omega (arith, fits, few, w))

  pub order_some : 0 < count
  order_some = subst (λ k. 0 < k) (sym exact) (both_some (length ns) (factorial (length ns - 1)) number below).1

  pub order_digit : number / count < length ns
  order_digit = digit_low (length ns) count number (subst (λ k. number < length ns * k) (sym exact) below)

  module _ (a : ℕ) (is : a ≡ get_or ns (number / count) 0) where
    there : IsAmong ns a
    there = subst (IsAmong ns) (sym is) (among_at ns (number / count) 0 order_digit)

    pub fewer : length (others ns a) ≡ length ns - 1
    fewer = let one = length-others ns a once (number_among ns a there) in omega (arith, one)

    pub others_are_once : AreOnce (others ns a)
    others_are_once = others_once ns a once

    pub others_few : factorial (length (others ns a)) ≤ most_candidates
    others_few =
        subst (λ k. factorial k ≤ most_candidates) (sym fewer)
        (let fits = factor_low (length ns) (factorial (length ns - 1)) number below in let w = whole in omega (arith, fits, few, w))

    pub others_number : number % count < factorial (length (others ns a))
    others_number =
        subst (λ k. number % count < factorial k) (sym fewer)
        (subst (λ k. number % count < k) exact (rest_low (length ns) count number (subst (λ k. number < length ns * k) (sym exact) below)))

    order_first : get_or (orders ns) number [] ≡ a ∷ get_or (orders (others ns a)) (number % count) []
    order_first =
        let n = length ns - 1 in
        ap (λ k. get_or (orders_of k ns) number []) (sym long)
        ∙ get-among (λ b. map (λ ys. b ∷ ys) (orders_of n (others ns b))) count number ns 0 []
        (λ b here. length-map (orders_of n (others ns b)) (λ ys. b ∷ ys)
        ∙ length-orders n (others ns b) (others_once ns b once)
        (let one = length-others ns b once (number_among ns b here) in omega (arith, one))
        ∙ sym exact)
        order_some (subst (λ k. number < length ns * k) (sym exact) below)
        ∙ ap (λ b. get_or (map (λ ys. b ∷ ys) (orders_of n (others ns b))) (number % count) []) (sym is)
        ∙ get_or-map (λ ys. a ∷ ys) (orders_of n (others ns a)) (number % count) [] []
        (let l = others_number in
        let e = length-orders n (others ns a) others_are_once fewer in
        let f = ap factorial fewer in
        omega (arith, l, e, f))
        ∙ ap (λ k. a ∷ get_or (orders_of k (others ns a)) (number % count) []) (sym fewer)

    pub order_pushed : {T E : Type 0} (r : Result T E) (before pushed after : List ℕ) → pushed ≡ before ++ a ∷ []
        → OnOk r (after ≡ pushed ++ get_or (orders (others ns a)) (number % count) [])
        → OnOk r (after ≡ before ++ get_or (orders ns) number [])
    order_pushed r before pushed after e ok =
        on_ok (after ≡ pushed ++ get_or (orders (others ns a)) (number % count) []) (after ≡ before ++ get_or (orders ns) number []) r
        (λ g. g ∙ ap (λ ys. ys ++ get_or (orders (others ns a)) (number % count) []) e
        ∙ append_assoc before (a ∷ []) (get_or (orders (others ns a)) (number % count) [])
        ∙ ap (λ ys. before ++ ys) (sym order_first)) ok

pub no_order : (ns : List ℕ) (number : ℕ) → length ns ≡ 0 → number < factorial (length ns) → get_or (orders ns) number [] ≡ []
no_order [] zero e low = refl
no_order [] (suc n) e low = absurd (omega (arith, low))
no_order (x ∷ ns) number e low = absurd (omega (arith, e))

-- ---- all locations

pub each_once : (lists : List (List ℕ)) → AreEachOnce lists → (ns : List ℕ) (rest : List (List ℕ)) → lists ≡ ns ∷ rest
    → AreOnce ns × AreEachOnce rest
each_once lists each ns rest split =
    let h : AreEachOnce (ns ∷ rest) = subst AreEachOnce split each in
    (h 0 (omega arith), λ k low. h (suc k) (omega (arith, low)))

lengths_from : (first : ℕ) (lists : List (List ℕ)) → AreEachOnce lists → product_of_lengths (orders_from first lists) ≡ product_by number_of_orders lists
lengths_from first [] each = refl
lengths_from first (ns ∷ rest) each =
    let parts = each_once (ns ∷ rest) each ns rest refl in
    ap (λ k. k * product_of_lengths (orders_from (first + 1) rest))
    (length-map (orders ns) (λ order. first ∷ order) ∙ length-orders (length ns) ns parts.0 refl)
    ∙ ap (λ k. number_of_orders ns * k) (lengths_from (first + 1) rest parts.1)

module _ (first : ℕ) (ns : List ℕ) (rest lists : List (List ℕ)) (m n : ℕ) (split : lists ≡ ns ∷ rest) (each : AreEachOnce lists)
    (counted : m ≡ capped (product_by number_of_orders rest)) (few : product_by number_of_orders lists ≤ most_candidates)
    (number : n < product_by number_of_orders lists) where
  parts : AreOnce ns × AreEachOnce rest
  parts = each_once lists each ns rest split

  pub list_once : AreOnce ns
  list_once = parts.0

  pub rest_once : AreEachOnce rest
  rest_once = parts.1

  all_below : n < factorial (length ns) * product_by number_of_orders rest
  all_below = subst (λ ls. n < product_by number_of_orders ls) split number

  within : factorial (length ns) * product_by number_of_orders rest ≤ most_candidates
  within = subst (λ ls. product_by number_of_orders ls ≤ most_candidates) split few

  pub rest_few : product_by number_of_orders rest ≤ most_candidates
  rest_few = let fits = factor_low (factorial (length ns)) (product_by number_of_orders rest) n all_below in let all = within in omega (arith, fits, all)

  pub rest_exact : m ≡ product_by number_of_orders rest
  rest_exact = counted ∙ capped_low (product_by number_of_orders rest) rest_few

  next_below : n < factorial (length ns) * m
  next_below = subst (λ k. n < factorial (length ns) * k) (sym rest_exact) all_below

  pub rest_some : 0 < m
  rest_some = (both_some (factorial (length ns)) m n next_below).1

  pub rest_number : n % m < product_by number_of_orders rest
  rest_number = subst (λ k. n % m < k) rest_exact (rest_low (factorial (length ns)) m n next_below)

  pub list_number : n / m < factorial (length ns)
  list_number = digit_low (factorial (length ns)) m n next_below

  pub list_few : factorial (length ns) ≤ most_candidates
  list_few =
      let some = (both_some (factorial (length ns)) (product_by number_of_orders rest) n all_below).1 in
      let fits = left_low (factorial (length ns)) (product_by number_of_orders rest) some in
      let all = within in
      omega (arith, fits, all)
    where
      left_low : (a b : ℕ) → 0 < b → a ≤ a * b
      left_low a zero h = absurd (omega (arith, h))
      left_low a (suc b) h = (let e : a * suc b ≡ a + a * b = mul-suc a b ∙ omega arith in omega (arith, e))

  pub orders_pushed : {T E : Type 0} (r : Result T E) (order : List ℕ) (before pushed after : List (List ℕ))
      → order ≡ first ∷ get_or (orders ns) (n / m) [] → pushed ≡ before ++ order ∷ []
      → OnOk r (after ≡ pushed ++ get_or (products (orders_from (first + 1) rest)) (n % m) [])
      → OnOk r (after ≡ before ++ get_or (products (orders_from first lists)) n [])
  orders_pushed r order before pushed after made e ok =
      on_ok (after ≡ pushed ++ get_or (products (orders_from (first + 1) rest)) (n % m) [])
      (after ≡ before ++ get_or (products (orders_from first lists)) n []) r
      (λ g. g ∙ ap (λ ys. ys ++ get_or (products (orders_from (first + 1) rest)) (n % m) []) e
      ∙ append_assoc before (order ∷ []) (get_or (products (orders_from (first + 1) rest)) (n % m) [])
      ∙ ap (λ z. before ++ z ∷ get_or (products (orders_from (first + 1) rest)) (n % m) []) (made ∙ sym here)
      ∙ ap (λ ys. before ++ ys)
      (sym (product_at (map (λ o. first ∷ o) (orders ns)) (orders_from (first + 1) rest) m n []
      (rest_exact ∙ sym (lengths_from (first + 1) rest rest_once)) rest_some
      (subst (λ k. n < k * m) (sym list_long) next_below)))
      ∙ ap (λ ls. before ++ get_or (products (orders_from first ls)) n []) (sym split)) ok
    where
      list_long : length (map (λ o. first ∷ o) (orders ns)) ≡ factorial (length ns)
      list_long = length-map (orders ns) (λ o. first ∷ o) ∙ length-orders (length ns) ns list_once refl

      here : get_or (map (λ o. first ∷ o) (orders ns)) (n / m) [] ≡ first ∷ get_or (orders ns) (n / m) []
      here =
          get_or-map (λ o. first ∷ o) (orders ns) (n / m) [] []
          (let l = list_number in let e = length-orders (length ns) ns list_once refl in omega (arith, l, e))
