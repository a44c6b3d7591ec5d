-- Orders of numbers: each is listed once, and the lists rise.
use Rattle.std.proofs.Common.{◌≡◌, ℕ, zero, suc, ◌+◌, ◌*◌, ◌<◌, ◌==◌, Bool, true, false, List, [], ◌∷◌, filter, length, refl, ap, sym, subst, ◌∙◌, arith, inl, inr}
use Rattle.std.specs.Prelude.{not, if◌then◌else◌}
use Rattle.std.proofs.lemmas.Bool.{false≢true, eq-eqb, ne_eqb, cases_eq}
use Rattle.fs_model.specs.Numbers.{has_number}
use Rattle.fs_cand_listing.specs.Ways.{others, orders_of, factorial}
use Rattle.fs_model.proofs.ListedNumbers.{AreOnce, has-here, has-later, has-cases}
use Rattle.fs_model.proofs.FilteredNumbers.{filter_has, in_filter, once-filter}
use Rattle.fs_model.proofs.CountedNumbers.{as_long, IsWithin}
use Rattle.fs_model.proofs.Pigeonhole.{IsAmong}
use Rattle.fs_cand_listing.proofs.Among.{among-branches, branches-among, length-branches, Ascends, ascends-branches}

pub among_number : (ns : List ℕ) (a : ℕ) → has_number ns a ≡ true → IsAmong ns a
among_number [] a there = absurd (false≢true there)
among_number (n ∷ ns) a there = elim (has-cases n ns a there) [
  | inl same ↦ inl (sym same)
  | inr later ↦ inr (among_number ns a later)
]

pub number_among : (ns : List ℕ) (a : ℕ) → IsAmong ns a → has_number ns a ≡ true
number_among [] a p = absurd p
number_among (n ∷ ns) a p = elim p [
  | inl same ↦ has-here n ns a (sym same)
  | inr later ↦ has-later n ns a (number_among ns a later)
]

-- ---- without one number

is_not : (n a : ℕ) → (n ≡ a → ⊥) → not (n == a) ≡ true
is_not n a other = ap not (ne_eqb n a other)

differs : (n a : ℕ) → not (n == a) ≡ true → n ≡ a → ⊥
differs n a other same = false≢true (ap not (sym (eq-eqb n a same)) ∙ other)

pub others_have : (ns : List ℕ) (a b : ℕ) → has_number ns b ≡ true → (b ≡ a → ⊥) → has_number (others ns a) b ≡ true
others_have ns a b there other = in_filter (λ n. not (n == a)) ns b there (is_not b a other)

pub have_others : (ns : List ℕ) (a b : ℕ) → has_number (others ns a) b ≡ true → (has_number ns b ≡ true) × (b ≡ a → ⊥)
have_others ns a b there =
    let parts = filter_has (λ n. not (n == a)) ns b there in
    (parts.0, differs b a parts.1)

pub others_once : (ns : List ℕ) (a : ℕ) → AreOnce ns → AreOnce (others ns a)
others_once ns a once = once-filter (λ n. not (n == a)) ns once

-- one number fewer
pub length-others : (ns : List ℕ) (a : ℕ) → AreOnce ns → has_number ns a ≡ true → length ns ≡ suc (length (others ns a))
length-others ns a once there =
    as_long ns (a ∷ others ns a) once ((λ here. (have_others ns a a here).1 refl), others_once ns a once)
    (λ b has. elim (cases_eq a b) [
      | inl same ↦ has-here a (others ns a) b same
      | inr other ↦ has-later a (others ns a) b (others_have ns a b has (λ e. other (sym e)))
    ])
    (λ b has. elim (has-cases a (others ns a) b has) [
      | inl same ↦ subst (λ (z : ℕ). has_number ns z ≡ true) same there
      | inr later ↦ (have_others ns a b later).0
    ])

-- ---- orders

-- n of the numbers, each at most once
pub record AreSome (n : ℕ) (ns ys : List ℕ) : Type 0 where
  pub long : length ys ≡ n
  pub once : AreOnce ys
  pub within : IsWithin ys ns

pub order_listed : (n : ℕ) (ns ys : List ℕ) → AreSome n ns ys → IsAmong (orders_of n ns) ys
order_listed zero ns [] h = inl refl
order_listed zero ns (y ∷ ys) h = absurd (omega (arith, h.long))
order_listed (suc n) ns [] h = absurd (omega (arith, h.long))
order_listed (suc n) ns (y ∷ ys) h =
    among-branches (λ a. orders_of n (others ns a)) ns y ys (among_number ns y (h.within y (has-here y ys y refl)))
    (order_listed n (others ns y) ys record {
      long = omega (arith, h.long);
      once = h.once.1;
      within = λ b there. others_have ns y b (h.within b (has-later y ys b there)) (λ same. h.once.0 (subst (λ (z : ℕ). has_number ys z ≡ true) same there));
    })

pub listed_order : (n : ℕ) (ns ys : List ℕ) → IsAmong (orders_of n ns) ys → AreSome n ns ys
listed_order zero ns ys p = elim p [
  | inl none ↦ subst (AreSome 0 ns) (sym none) (record { long = refl; once = tt; within = λ a there. absurd (false≢true there) })
  | inr other ↦ absurd other
]
listed_order (suc n) ns ys p =
    let parts = branches-among (λ a. orders_of n (others ns a)) ns ys p in
    let rest = listed_order n (others ns parts.0) parts.1 parts.4 in
    subst (AreSome (suc n) ns) (sym parts.2) (record {
      long = omega (arith, rest.long);
      once = ((λ there. (have_others ns parts.0 parts.0 (rest.within parts.0 there)).1 refl), rest.once);
      within = λ b there. elim (has-cases parts.0 parts.1 b there) [
        | inl same ↦ subst (λ (z : ℕ). has_number ns z ≡ true) same (number_among ns parts.0 parts.3)
        | inr later ↦ (have_others ns parts.0 b (rest.within b later)).0
      ];
    })

pub length-orders : (n : ℕ) (ns : List ℕ) → AreOnce ns → length ns ≡ n → length (orders_of n ns) ≡ factorial n
length-orders zero ns once long = refl
length-orders (suc n) ns once long =
    length-branches (λ a. orders_of n (others ns a)) (factorial n) ns (λ a there.
    length-orders n (others ns a) (others_once ns a once)
    (let one = length-others ns a once (number_among ns a there) in omega (arith, one, long)))
    ∙ ap (λ k. k * factorial n) (let e : length ns ≡ n + 1 = omega (arith, long) in e)

-- ---- their order

abbrev pub Rises : List ℕ → Type 0
Rises ns = Ascends (λ a b. a < b) ns

pub rises_once : (ns : List ℕ) → Rises ns → AreOnce ns
rises_once [] h = tt
rises_once (n ∷ ns) h = ((λ there. let l = h.0 n (among_number ns n there) in omega (arith, l)), rises_once ns h.1)

pub rises-filter : (f : ℕ → Bool) (ns : List ℕ) → Rises ns → Rises (filter f ns)
rises-filter f [] h = tt
rises-filter f (n ∷ ns) h = by_case (f n) (rises-filter f ns h.1)
  where
    by_case : (kept : Bool) → Rises (filter f ns) → Rises (if kept then n ∷ filter f ns else filter f ns)
    by_case true rest = ((λ a there. h.0 a (among_number ns a (filter_has f ns a (number_among (filter f ns) a there)).0)), rest)
    by_case false rest = rest

module _ (S : List ℕ → List ℕ → Type 0) (first : (a b : ℕ) (xs ys : List ℕ) → a < b → S (a ∷ xs) (b ∷ ys))
    (later : (a : ℕ) (xs ys : List ℕ) → S xs ys → S (a ∷ xs) (a ∷ ys)) where
  pub orders_ascend : (n : ℕ) (ns : List ℕ) → Rises ns → Ascends S (orders_of n ns)
  orders_ascend zero ns h = ((λ y there. absurd there), tt)
  orders_ascend (suc n) ns h =
      ascends-branches (λ a b. a < b) S (λ a. orders_of n (others ns a)) first later ns h
      (λ a there. orders_ascend n (others ns a) (rises-filter (λ m. not (m == a)) ns h))
