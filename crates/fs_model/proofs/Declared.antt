-- Addresses of locations.
use Rattle.std.proofs.Common.{◌≡◌, ◌↔◌, IsTrue, nat_lt, ℕ, ◌-◌, ◌/◌, ◌%◌, ◌<◌, ◌≤◌, Some, arith, ap}
use Rattle.std.proofs.lemmas.Bool.Decides.{nat_tests}
use Rattle.fs_model.specs.Test.{address_of}
use Rattle.fs_model.specs.Trace.{IsDeclared}

same : {a b : ℕ} → Some a ≡ Some b → a ≡ b
same h = cc

pub declared : (n a : ℕ) → 4096 ≤ a → (a - 4096) % 16 ≡ 0 → (a - 4096) / 16 < n → IsDeclared n (Some a)
declared n a low whole near =
    let e : a ≡ address_of ((a - 4096) / 16) = omega arith in
    ((a - 4096) / 16, near, ap (λ x. Some x) e)

pub not_below : (n a : ℕ) → a < 4096 → IsDeclared n (Some a) → ⊥
not_below n a low d = let e : a ≡ address_of d.0 = same d.2 in absurd (omega (arith, e))

pub is_whole : (n a : ℕ) → IsDeclared n (Some a) → (a - 4096) % 16 ≡ 0
is_whole n a d = let e : a ≡ address_of d.0 = same d.2 in omega (arith, e)

pub is_near : (n a : ℕ) → IsDeclared n (Some a) → (a - 4096) / 16 < n
is_near n a d = let e : a ≡ address_of d.0 = same d.2 in let near : d.0 < n = d.1 in omega (arith, e, near)

-- the address of a location is declared exactly where the location is
pub near_exactly : (n m k a : ℕ) → a ≡ address_of k → m ≡ n → IsTrue (nat_lt k m) ↔ IsDeclared n (Some a)
near_exactly n m k a at e = (
  (λ h. let near : k < n = grind (arith, nat_tests) in (k, near, ap (λ x. Some x) at)),
  (λ d.
      let there : a ≡ address_of d.0 = same d.2 in
      let low : d.0 < n = d.1 in
      let near : k < m = omega (arith, at, there, low, e) in
      grind (arith, nat_tests)),
)
