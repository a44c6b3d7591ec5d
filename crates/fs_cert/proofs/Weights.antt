-- A measure of the nodes that a walk has still to visit: a node weighs more than all its children together, since they
-- come after it.
use Rattle.std.proofs.Common.{◌≡◌, ℕ, zero, suc, ◌+◌, ◌-◌, ◌*◌, ◌^◌, ◌<◌, ◌≤◌, List, [], ◌∷◌, ◌++◌, ap, ◌∙◌, arith}
use Rattle.std.specs.List.{range_with_len}
use Rattle.std.proofs.Math.Nat.{one-le-pow, pow-le-pow_right, pow-suc}
use Rattle.std.proofs.lemmas.Nat.{mul-le}

abbrev pub weight : (base most : ℕ) → List ℕ → ℕ
weight base most [] = 0
weight base most (k ∷ ks) = base ^ (most - k) + weight base most ks

weight-append : (base most : ℕ) (xs ys : List ℕ) → weight base most (xs ++ ys) ≡ weight base most xs + weight base most ys
weight-append base most [] ys = omega arith
weight-append base most (x ∷ xs) ys = together (base ^ (most - x)) _ _ _ (weight-append base most xs ys)
  where
    together : (a b c d : ℕ) → b ≡ c + d → a + b ≡ a + c + d
    together a b c d same = omega arith

-- numbers from one on, all after k
run-weight : (base most k first count : ℕ) → 0 < base → k < first → weight base most (range_with_len first count) ≤ count * base ^ (most - k - 1)
run-weight base most k first zero some later = none (base ^ (most - k - 1))
  where
    none : (p : ℕ) → 0 ≤ 0 * p
    none p = omega arith
run-weight base most k first (suc n) some later =
    let here : base ^ (most - first) ≤ base ^ (most - k - 1) = pow-le-pow_right some (nearer most k first later) in
    let rest = run-weight base most k (first + 1) n some (one-more k first later) in
    at-most (base ^ (most - first)) _ n (base ^ (most - k - 1)) here rest
  where
    nearer : (most k first : ℕ) → k < first → most - first ≤ most - k - 1
    nearer most k first later = omega arith

    one-more : (k first : ℕ) → k < first → k < first + 1
    one-more k first later = omega arith

    at-most : (a b n p : ℕ) → a ≤ p → b ≤ n * p → a + b ≤ suc n * p
    at-most a b n p first rest = omega arith

-- what is left weighs less after a leaf
pub leaf-lighter : (base most k : ℕ) (ks : List ℕ) → 0 < base → weight base most ks < weight base most (k ∷ ks)
leaf-lighter base most k ks some = lighter (base ^ (most - k)) (weight base most ks) (one-le-pow (most - k) base some)
  where
    lighter : (a b : ℕ) → 1 ≤ a → b < a + b
    lighter a b one = omega arith

-- and after a node whose children come after it
pub split-lighter : (ways count most k first : ℕ) (ks : List ℕ) → count ≤ ways → k < first → k < most
    → weight (ways + 1) most (range_with_len first count ++ ks) < weight (ways + 1) most (k ∷ ks)
split-lighter ways count most k first ks few later low =
    let base = ways + 1 in
    let some : 0 < base = positive ways in
    let children = fewer count ways (base ^ (most - k - 1)) few (run-weight base most k first count some later) in
    let one = one-le-pow (most - k - 1) base some in
    let joined = weight-append base most (range_with_len first count) ks in
    let own : base ^ (most - k) ≡ base ^ (most - k - 1) * base = ap (λ n. base ^ n) (place most k low) ∙ pow-suc base (most - k - 1) in
    less _ _ (weight base most ks) (base ^ (most - k - 1)) ways (base ^ (most - k)) joined children one own
  where
    fewer : (m n p : ℕ) → m ≤ n → {x : ℕ} → x ≤ m * p → x ≤ n * p
    fewer m n p few {x} low = let more = mul-le m p n p few (omega arith) in omega (arith, low, more)

    positive : (n : ℕ) → 0 < n + 1
    positive n = omega arith

    place : (most k : ℕ) → k < most → most - k ≡ suc (most - k - 1)
    place most k low = omega arith

    less : (all some others p n own : ℕ) → all ≡ some + others → some ≤ n * p → 1 ≤ p → own ≡ p * (n + 1) → all < own + others
    less all some others p n own joined children one is =
        let times : p * (n + 1) ≡ n * p + p = spread p n in
        finish all some others (n * p) p own joined children one (is ∙ times)
      where
        spread : (p n : ℕ) → p * (n + 1) ≡ n * p + p
        spread p n = omega arith

        finish : (a b c d e f : ℕ) → a ≡ b + c → b ≤ d → 1 ≤ e → f ≡ d + e → a < f + c
        finish a b c d e f i j k l = omega arith
