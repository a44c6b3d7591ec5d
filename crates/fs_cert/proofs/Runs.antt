-- Numbers that follow one another.
use Rattle.std.proofs.Common.{◌≡◌, ℕ, zero, suc, ◌+◌, ◌-◌, ◌<◌, ◌≤◌, List, ◌∷◌, ◌++◌, ap, sym, ◌∙◌, arith}
use Rattle.std.specs.List.{range_with_len, AllByRecursion}

-- a number before those that follow it
pub one_before : (first place count : ℕ) (old : List ℕ) → 0 < place → place ≤ count
    → (first + (place - 1)) ∷ (range_with_len (first + place) (count - place) ++ old) ≡ range_with_len (first + (place - 1)) (count - (place - 1)) ++ old
one_before first place count old some most =
    let more : count - (place - 1) ≡ suc (count - place) = omega arith in
    let next : first + place ≡ first + (place - 1) + 1 = omega arith in
    ap (λ n. (first + (place - 1)) ∷ (range_with_len n (count - place) ++ old)) next
    ∙ ap (λ n. range_with_len (first + (place - 1)) n ++ old) (sym more)

-- they are all below what is above the last one
pub run_below : (most first count : ℕ) (old : List ℕ) → first + count ≤ most → AllByRecursion (λ k. k < most) old
    → AllByRecursion (λ k. k < most) (range_with_len first count ++ old)
run_below most first zero old within others = others
run_below most first (suc n) old within others = (omega (arith, within), run_below most (first + 1) n old (omega (arith, within)) others)
