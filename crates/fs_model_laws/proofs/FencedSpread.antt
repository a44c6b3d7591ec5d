-- Numbers spread out, with a gap of one before some: what is tested of the spread numbers between two of them.
use Rattle.std.proofs.Common.{◌≡◌, ℕ, zero, suc, ◌+◌, ◌-◌, ◌<◌, ◌≤◌, nat_lt, List, [], ◌∷◌, Bool, true, false, ◌&&◌, ◌||◌, refl, sym, ap, ◌∙◌, arith, inl, inr}
use Rattle.std.specs.List.{list_any, range_with_len}
use Rattle.std.proofs.lemmas.Bool.{cases_lt}
use Rattle.std.proofs.lemmas.Bool.Decides.{nat_tests}
use Rattle.fs_model.proofs.FencedPlaces.{bit}
use Rattle.fs_model.specs.Numbers.{between}

pub or_false : (b : Bool) → (b || false) ≡ b
or_false true = refl
or_false false = refl

sorted_out : (a b c d : Bool) → (a || (b || (c || d))) ≡ ((b || c) || (a || d))
sorted_out true true c d = refl
sorted_out true false true d = refl
sorted_out true false false d = refl
sorted_out false true c d = refl
sorted_out false false c d = refl

-- a gap, if there is one
gap_alone : (T : ℕ → Bool) (c : Bool) (x m : ℕ) → m ≡ bit c → list_any T (range_with_len x m) ≡ (c && T x)
gap_alone T true x m e = ap (λ k. list_any T (range_with_len x k)) e ∙ or_false (T x)
gap_alone T false x m e = ap (λ k. list_any T (range_with_len x k)) e

-- and what comes after it
gap_and_more : (T : ℕ → Bool) (c : Bool) (x y m n : ℕ) → m ≡ bit c + suc n → y ≡ x + bit c
    → list_any T (range_with_len x m) ≡ ((c && T x) || (T y || list_any T (range_with_len (y + 1) n)))
gap_and_more T true x y m n e at =
    let long : m ≡ suc (suc n) = omega (arith, e) in
    let next : x + 1 ≡ y = omega (arith, at) in
    ap (λ k. list_any T (range_with_len x k)) long ∙ ap (λ z. T x || (T z || list_any T (range_with_len (z + 1) n))) next
gap_and_more T false x y m n e at =
    let long : m ≡ suc n = omega (arith, e) in
    let same : x ≡ y = omega (arith, at) in
    ap (λ k. list_any T (range_with_len x k)) long ∙ ap (λ z. T z || list_any T (range_with_len (z + 1) n)) same

pub any_same : {X : Type 0} (f g : X → Bool) → ((x : X) → f x ≡ g x) → (xs : List X) → list_any f xs ≡ list_any g xs
any_same f g e [] = refl
any_same f g e (x ∷ xs) = let first = e x in let rest = any_same f g e xs in cc

none_any : (n k : ℕ) → list_any (λ m. false) (range_with_len n k) ≡ false
none_any n zero = refl
none_any n (suc k) = none_any (n + 1) k

-- number k + 1 comes right after number k, or after a gap of one
module _ (f : ℕ → ℕ) (b : ℕ → Bool) (next : (k : ℕ) → f (suc k) ≡ f k + 1 + bit (b (suc k))) where
  spread_by : (i d j : ℕ) → j ≡ i + d → f i + d ≤ f j
  spread_by i zero j e = let same : f j ≡ f i = ap f (omega (arith, e)) in omega (arith, same)
  spread_by i (suc d) j e =
      let later = spread_by (suc i) d j (omega (arith, e)) in
      let one = next i in
      omega (arith, later, one)

  pub spread_rises : (i j : ℕ) → i < j → f i < f j
  spread_rises i j low =
      let h = spread_by i (j - i) j (omega (arith, low)) in
      omega (arith, h, low)

  pub spread_keeps : (i j : ℕ) → i ≤ j → f i ≤ f j
  spread_keeps i j low =
      let h = spread_by i (j - i) j (omega (arith, low)) in
      omega (arith, h, low)

  pub spread_lt : (i j : ℕ) → nat_lt (f i) (f j) ≡ nat_lt i j
  spread_lt i j = elim (cases_lt i j) [
    | inl low ↦ (let high = spread_rises i j low in let a : nat_lt (f i) (f j) ≡ true = grind
        (arith, nat_tests, high) in let c : nat_lt i j ≡ true = grind (arith, nat_tests, low) in a ∙ sym c)
    | inr past ↦ (let high = spread_keeps j i past in let a : nat_lt (f i) (f j) ≡ false = grind
        (arith, nat_tests, high) in let c : nat_lt i j ≡ false = grind (arith, nat_tests, past) in a ∙ sym c)
  ]

  module _ (S T G : ℕ → Bool) where
    any_from : (i d j m : ℕ) → j ≡ i + suc d → f j ≡ f i + 1 + m → ((k : ℕ) → i < k → k < j → S (f k) ≡ T k)
        → ((k : ℕ) → i ≤ k → k < j → (b (suc k) && S (f k + 1)) ≡ G (suc k))
        → list_any S (range_with_len (f i + 1) m) ≡
        (list_any T (range_with_len (i + 1) d) || list_any G (range_with_len (i + 1) (suc d)))
    any_from i zero j m e long inner gap =
        let one : suc i ≡ j = omega (arith, e) in
        let there = ap f one in
        let here = next i in
        let plus : i + 1 ≡ suc i = omega arith in
        gap_alone S (b (suc i)) (f i + 1) m (omega (arith, long, there, here)) ∙ gap i (omega arith) (omega (arith, e))
        ∙ sym (ap G plus) ∙ sym (or_false (G (i + 1)))
    any_from i (suc d) j m e long inner gap =
        let here = next i in
        let plus : i + 1 ≡ suc i = omega arith in
        let ahead = spread_rises (suc i) j (omega (arith, e)) in
        let n = f j - (f (suc i) + 1) in
        let rest = any_from (suc i) d j n (omega (arith, e)) (omega (arith, ahead))
        (λ k low high. inner k (omega (arith, low)) high) (λ k low high. gap k (omega (arith, low)) high) in
        gap_and_more S (b (suc i)) (f i + 1) (f (suc i)) m n (omega (arith, long, here, ahead)) (omega (arith, here))
        ∙ ap (λ c. c || (S (f (suc i)) || list_any S (range_with_len (f (suc i) + 1) n))) (gap i (omega arith) (omega (arith, e)))
        ∙ ap (λ c. G (suc i) || (c || list_any S (range_with_len (f (suc i) + 1) n)))
        (inner (suc i) (omega arith) (omega (arith, e)))
        ∙ ap (λ c. G (suc i) || (T (suc i) || c)) rest
        ∙ sorted_out (G (suc i)) (T (suc i)) (list_any T (range_with_len (suc i + 1) d))
        (list_any G (range_with_len (suc i + 1) (suc d)))
        ∙ ap (λ k. (T k || list_any T (range_with_len (k + 1) d)) || (G k || list_any G (range_with_len (k + 1) (suc d))))
        (sym plus)

    -- S of the spread numbers between, where it is T of a number and G of the gap before a number
    pub any_spread : (i j : ℕ) → i < j → ((k : ℕ) → i < k → k < j → S (f k) ≡ T k)
        → ((k : ℕ) → i ≤ k → k < j → (b (suc k) && S (f k + 1)) ≡ G (suc k))
        → list_any S (between (f i) (f j)) ≡ (list_any T (between i j) || list_any G (between i (j + 1)))
    any_spread i j low inner gap =
        let ahead = spread_rises i j low in
        let long : suc (j - (i + 1)) ≡ j + 1 - (i + 1) = omega (arith, low) in
        any_from i (j - (i + 1)) j (f j - (f i + 1)) (omega (arith, low)) (omega (arith, ahead)) inner gap
        ∙ ap (λ n. list_any T (between i j) || list_any G (range_with_len (i + 1) n)) long

  gap_false : (c s : Bool) → (c ≡ true → s ≡ false) → (c && s) ≡ false
  gap_false true s h = h refl
  gap_false false s h = refl

  -- where S holds of no gap
  pub any_spread_only : (S T : ℕ → Bool) (i j : ℕ) → i < j → ((k : ℕ) → i < k → k < j → S (f k) ≡ T k)
      → ((k : ℕ) → b (suc k) ≡ true → S (f k + 1) ≡ false) → list_any S (between (f i) (f j)) ≡ list_any T (between i j)
  any_spread_only S T i j low inner gap =
      any_spread S T (λ k. false) i j low inner (λ k after before. gap_false (b (suc k)) (S (f k + 1)) (gap k))
      ∙ ap (λ c. list_any T (between i j) || c) (none_any (i + 1) (j + 1 - (i + 1)))
      ∙ or_false (list_any T (between i j))
