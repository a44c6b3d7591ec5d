-- One item of each list, by the number of the choice.
use Rattle.std.proofs.Common.{◌≡◌, ◌∙◌, ℕ, zero, suc, ◌+◌, ◌*◌, ◌/◌, ◌%◌, ◌<◌, ◌≤◌, List, [], ◌∷◌, ◌++◌, map, length, take, get_or, sym, ap, subst, arith, append_assoc}
use Rattle.std.specs.Prelude.{Result, Ok, Err, OnOk}
use Rattle.std.specs.List.{flat_map}
use Rattle.std.proofs.Math.Nat.{div-lt_iff_lt-mul}
use Rattle.std.proofs.lemmas.Nat.{div-add-mod'}
use Rattle.std.proofs.lemmas.List.{length-take-le, length-map, get_or-map}
use Rattle.std.proofs.lemmas.List.Concat.{get_or-flat_map}
use Rattle.fs_cand_listing.specs.Ways.{products, product_of_lengths}
use Rattle.fs_cert_evidence.specs.CandidateFaults.{most_candidates}
use Rattle.fs_cand_listing.specs.inner.Listed.{capped}
use Rattle.fs_cand_listing.proofs.Capped.{capped_low}
use Rattle.fs_cand_listing.proofs.Among.{length-even}
use Rattle.fs_cand_listing.proofs.Choosing.{length-products}

mod_low : (n m : ℕ) → 0 < m → n % m < m
mod_low n m some = omega arith

pub get-even : {A B : Type 0} (f : A → List B) (m n : ℕ) (xs : List A) (e : A) (d : B) → ((x : A) → length (f x) ≡ m) → 0 < m
    → n < length xs * m → get_or (flat_map f xs) n d ≡ get_or (f (get_or xs (n / m) e)) (n % m) d
get-even f m n xs e d even some low =
    let q = n / m in
    let r = n % m in
    let high : q < length xs = (div-lt_iff_lt-mul some).1 low in
    let whole : q * m + r ≡ n = div-add-mod' n m in
    let before : length (flat_map f (take q xs)) ≡ length (take q xs) * m = length-even f m (take q xs) (λ x there. even x) in
    let taken : length (take q xs) ≡ q = length-take-le q xs (omega (arith, high)) in
    let start : length (flat_map f (take q xs)) + r ≡ n = ap (λ k. k + r) (before ∙ ap (λ k. k * m) taken) ∙ whole in
    ap (λ k. get_or (flat_map f xs) k d) (sym start)
    ∙ get_or-flat_map f xs q r e d high (let long = even (get_or xs q e) in let l = mod_low n m some in omega (arith, long, l))

-- the first item, and then those of the other lists
pub product_at : {A : Type 0} (xs : List A) (xss : List (List A)) (m n : ℕ) (x : A) → m ≡ product_of_lengths xss → 0 < m
    → n < length xs * m → get_or (products (xs ∷ xss)) n [] ≡ get_or xs (n / m) x ∷ get_or (products xss) (n % m) []
product_at xs xss m n x is some low =
    let long : length (products xss) ≡ m = length-products xss ∙ sym is in
    get-even (λ y. map (λ ys. y ∷ ys) (products xss)) m n xs x [] (λ y. length-map (products xss) (λ ys. y ∷ ys) ∙ long) some low
    ∙ get_or-map (λ ys. get_or xs (n / m) x ∷ ys) (products xss) (n % m) [] [] (let l = mod_low n m some in omega (arith, l, long))

-- what a number below a product of two says
pub both_some : (a b n : ℕ) → n < a * b → (0 < a) × (0 < b)
both_some zero b n low = absurd (omega (arith, low))
both_some (suc a) zero n low = absurd (omega (arith, low))
both_some (suc a) (suc b) n low = (omega arith, omega arith)

pub digit_low : (a b n : ℕ) → n < a * b → n / b < a
digit_low a b n low = (div-lt_iff_lt-mul (both_some a b n low).1).1 low

pub rest_low : (a b n : ℕ) → n < a * b → n % b < b
rest_low a b n low = mod_low n b (both_some a b n low).1

pub factor_low : (a b n : ℕ) → n < a * b → b ≤ a * b
factor_low a b n low = by_case a b (both_some a b n low).0
  where
    by_case : (a b : ℕ) → 0 < a → b ≤ a * b
    by_case zero b some = absurd (omega (arith, some))
    by_case (suc a) b some = omega arith

-- ---- the runs of a number, list by list

pub on_ok : {T E : Type 0} (P Q : Type 0) (r : Result T E) → (P → Q) → OnOk r P → OnOk r Q
on_ok P Q (Ok x) f p = f p
on_ok P Q (Err e) f p = tt

module _ {A : Type 0} (list : List A) (rest lists : List (List A)) (m n : ℕ) (split : lists ≡ list ∷ rest)
    (counted : m ≡ capped (product_of_lengths rest)) (few : product_of_lengths lists ≤ most_candidates)
    (number : n < product_of_lengths lists) where
  below : n < length list * product_of_lengths rest
  below = subst (λ ls. n < product_of_lengths ls) split number

  within : length list * product_of_lengths rest ≤ most_candidates
  within = subst (λ ls. product_of_lengths ls ≤ most_candidates) split few

  pub rest_few : product_of_lengths rest ≤ most_candidates
  rest_few = let fits = factor_low (length list) (product_of_lengths rest) n below in let all = within in omega (arith, fits, all)

  pub exact : m ≡ product_of_lengths rest
  exact = counted ∙ capped_low (product_of_lengths rest) rest_few

  pub next_below : n < length list * m
  next_below = subst (λ k. n < length list * k) (sym exact) below

  pub some : 0 < m
  some = (both_some (length list) m n next_below).1

  pub next_number : n % m < product_of_lengths rest
  next_number = subst (λ k. n % m < k) exact (rest_low (length list) m n next_below)

  pub next_digit : n / m < length list
  next_digit = digit_low (length list) m n next_below

  pub pushed_next : (x y : A) (before pushed after : List A) → y ≡ x → x ≡ get_or list (n / m) x → pushed ≡ before ++ y ∷ []
      → after ≡ pushed ++ get_or (products rest) (n % m) [] → after ≡ before ++ get_or (products lists) n []
  pushed_next x y before pushed after copied at e g =
      g ∙ ap (λ ys. ys ++ get_or (products rest) (n % m) []) e
      ∙ append_assoc before (y ∷ []) (get_or (products rest) (n % m) [])
      ∙ ap (λ z. before ++ z ∷ get_or (products rest) (n % m) []) (copied ∙ at)
      ∙ ap (λ ys. before ++ ys) (sym (product_at list rest m n x exact some next_below))
      ∙ ap (λ ls. before ++ get_or (products ls) n []) (sym split)

  pub pushed_rest : {T E : Type 0} (r : Result T E) (x y : A) (before pushed after : List A) → y ≡ x → x ≡ get_or list (n / m) x
      → pushed ≡ before ++ y ∷ [] → OnOk r (after ≡ pushed ++ get_or (products rest) (n % m) [])
      → OnOk r (after ≡ before ++ get_or (products lists) n [])
  pushed_rest r x y before pushed after copied at e ok =
      on_ok (after ≡ pushed ++ get_or (products rest) (n % m) []) (after ≡ before ++ get_or (products lists) n []) r
      (pushed_next x y before pushed after copied at e) ok
