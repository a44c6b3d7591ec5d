-- Counting up to a limit.
use Rattle.std.proofs.Common.{◌≡◌, ◌∙◌, ℕ, zero, suc, ◌+◌, ◌*◌, ◌<◌, ◌≤◌, List, [], ◌∷◌, length, take, get_or, refl, sym, ap, arith, inl, inr}
use Rattle.std.specs.Prelude.{if◌then◌else◌}
use Rattle.std.proofs.Math.Nat.{mul-suc, mul_comm, mul_assoc}
use Rattle.std.proofs.lemmas.Bool.{cases_lt, lt-ltb, le-ltb}
use Rattle.fs_cert_evidence.specs.CandidateFaults.{most_candidates}
use Rattle.std.proofs.lemmas.List.{take_all}
use Rattle.fs_cand_listing.specs.Ways.{factorial, product_by}
use Rattle.fs_cand_listing.specs.inner.Listed.{capped}

pub capped_high : (n : ℕ) → most_candidates < n → capped n ≡ most_candidates + 1
capped_high n high = ap (λ b. if b then most_candidates + 1 else n) (lt-ltb most_candidates n high)

pub capped_low : (n : ℕ) → n ≤ most_candidates → capped n ≡ n
capped_low n low = ap (λ b. if b then most_candidates + 1 else n) (le-ltb most_candidates n low)

pub capped_times : (a b : ℕ) → capped (capped a * b) ≡ capped (a * b)
capped_times a zero = let e : capped a * 0 ≡ a * 0 = omega arith in ap capped e
capped_times a (suc b) = elim (cases_lt most_candidates a) [
  | inl high ↦ (
      let one = capped_high a high in
      let left : most_candidates < capped a * suc b = (let e = mul-suc (capped a) b in omega (arith, e, one)) in
      let right : most_candidates < a * suc b = (let e = mul-suc a b in omega (arith, e, high)) in
      capped_high (capped a * suc b) left ∙ sym (capped_high (a * suc b) right))
  | inr low ↦ ap (λ n. capped (n * suc b)) (capped_low a low)
]

pub capped_product : (a b : ℕ) → capped (a * capped b) ≡ capped (a * b)
capped_product a b = ap capped (mul_comm a (capped b)) ∙ capped_times b a ∙ ap capped (mul_comm b a)

-- both factors are capped
pub capped_both : (a b : ℕ) → capped (capped a * capped b) ≡ capped (a * b)
capped_both a b = capped_product (capped a) b ∙ capped_times a b

-- ---- products of the first so many

take_zero : {A : Type 0} (f : A → ℕ) (xs : List A) → product_by f (take 0 xs) ≡ 1
take_zero f [] = refl
take_zero f (x ∷ xs) = refl

pub product_more : {A : Type 0} (f : A → ℕ) (xs : List A) (i : ℕ) (d : A) → i < length xs
    → product_by f (take (suc i) xs) ≡ product_by f (take i xs) * f (get_or xs i d)
product_more f [] i d low = absurd (omega (arith, low))
product_more f (x ∷ xs) zero d low = ap (λ n. f x * n) (take_zero f xs) ∙ mul_comm (f x) 1
product_more f (x ∷ xs) (suc i) d low =
    ap (λ n. f x * n) (product_more f xs i d (omega (arith, low)))
    ∙ sym (mul_assoc (f x) (product_by f (take i xs)) (f (get_or xs i d)))

-- one factor more
pub counted_more : {A : Type 0} (f : A → ℕ) (xs : List A) (i count : ℕ) (x : A) → i < length xs → x ≡ get_or xs i x
    → count ≡ capped (product_by f (take i xs)) → capped (count * f x) ≡ capped (product_by f (take (i + 1) xs))
counted_more f xs i count x low is e =
    let next : suc i ≡ i + 1 = omega arith in
    ap (λ n. capped (n * f x)) e
    ∙ capped_times (product_by f (take i xs)) (f x)
    ∙ ap (λ y. capped (product_by f (take i xs) * f y)) is
    ∙ ap capped (sym (product_more f xs i x low))
    ∙ ap (λ n. capped (product_by f (take n xs))) next

pub counted_whole : {A : Type 0} (f : A → ℕ) (xs : List A) (i count : ℕ) → length xs ≤ i
    → count ≡ capped (product_by f (take i xs)) → count ≡ capped (product_by f xs)
counted_whole f xs i count past e = e ∙ ap (λ ys. capped (product_by f ys)) (take_all i xs past)

pub counted_none : {A : Type 0} (f : A → ℕ) (xs : List A) → 1 ≡ capped (product_by f (take 0 xs))
counted_none f xs = sym (ap capped (take_zero f xs))

pub factorial_more : (k count : ℕ) → count ≡ capped (factorial k) → capped (count * (k + 1)) ≡ capped (factorial (k + 1))
factorial_more k count e =
    let next : suc k ≡ k + 1 = omega arith in
    ap (λ n. capped (n * (k + 1))) e
    ∙ capped_times (factorial k) (k + 1)
    ∙ ap capped (mul_comm (factorial k) (k + 1))
    ∙ ap (λ n. capped (factorial n)) next

-- what a capped number says
pub past_limit : (n m : ℕ) → m ≡ capped n → most_candidates < m → most_candidates < n
past_limit n m e high = elim (cases_lt most_candidates n) [
  | inl past ↦ past
  | inr low ↦ (let one = capped_low n low in omega (arith, one, e, high))
]

pub in_limit : (n m : ℕ) → m ≡ capped n → m ≤ most_candidates → m ≡ n
in_limit n m e low = elim (cases_lt most_candidates n) [
  | inl past ↦ (let one = capped_high n past in omega (arith, one, e, low))
  | inr fits ↦ e ∙ capped_low n fits
]
