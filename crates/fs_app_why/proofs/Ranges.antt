-- Numbers one after the other.
use Rattle.std.proofs.Common.{◌≡◌, ℕ, ◌+◌, ◌-◌, ◌<◌, List, ◌++◌, suc, ap, arith}
use Rattle.std.specs.List.{flat_map, range_with_len}

module _ {X : Type 0} (f : ℕ → List X) where
  -- what the numbers up to end give, and what those behind the first of them do
  pub at_first : (at end : ℕ) → at < end
      → flat_map f (range_with_len (at + 1) (end - at))
      ≡ f (at + 1) ++ flat_map f (range_with_len (at + 1 + 1) (end - (at + 1)))
  at_first at end low =
      let more : end - at ≡ suc (end - (at + 1)) = omega (arith, low) in
      ap (λ n. flat_map f (range_with_len (at + 1) n)) more
