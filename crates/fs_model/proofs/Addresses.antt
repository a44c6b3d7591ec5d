-- Addresses of locations.
use Rattle.std.proofs.Common.{◌≡◌, ℕ, ◌+◌, ◌-◌, ◌*◌, ◌/◌, ◌%◌, true, Some, None, cond, ap, ◌∙◌, arith}
use Rattle.std.specs.Prelude.{nat_le, ◌&&◌, ◌==◌}
use Rattle.std.proofs.lemmas.Bool.Decides.{nat_tests}
use Rattle.fs_model.specs.Test.{address_of, location_of}

-- a location is known by its address
pub location_of-address : (k : ℕ) → location_of (address_of k) ≡ Some k
location_of-address k =
    let whole : (4096 + 16 * k - 4096) % 16 ≡ 0 = omega arith in
    let number : (4096 + 16 * k - 4096) / 16 ≡ k = omega arith in
    let test : (nat_le 4096 (4096 + 16 * k) && ((4096 + 16 * k - 4096) % 16 == 0)) ≡ true = grind (arith, nat_tests) in
    ap (λ b. cond b (Some ((4096 + 16 * k - 4096) / 16)) None) test ∙ ap Some number
