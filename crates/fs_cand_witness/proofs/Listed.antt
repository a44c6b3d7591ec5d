-- Orders and cycles in arrays, as lists of numbers.
use Rattle.std.proofs.Common.{◌≡◌, ℕ, zero, suc, ◌+◌, ◌<◌, ◌≤◌, Bool, true, List, [], ◌∷◌, ◌++◌, length, take, get_or, refl, ◌∙◌, inl, inr, arith}
use Rattle.std.specs.List.{list_all, zip}
use Rattle.std.proofs.lemmas.Bool.{cases_eq, cases_lt, both_ways, and_from}
use Rattle.std.proofs.lemmas.List.{get_or-take, length-take-le}
use Rattle.std.proofs.lemmas.List.Elements.{All-from_get_or}
use Rattle.fs_model.specs.Numbers.{has_number, stands_before}
use Rattle.fs_cand_witness.specs.Edges.{has_edge}
use Rattle.fs_cand_witness.specs.Orders.{IsOrderBelow, IsCycleBelow}
use Rattle.fs_cand_witness.specs.inner.Paths.{IsOrder, IsCycle}
use Rattle.fs_model.proofs.ListedNumbers.{has-here, has-later}
use Rattle.fs_model.proofs.NumberOrders.{before-here, before-later}

has_at : (xs : List ℕ) (i a : ℕ) → i < length xs → get_or xs i 0 ≡ a → has_number xs a ≡ true
has_at [] i a low is = absurd (omega (arith, low))
has_at (x ∷ xs) zero a low is = has-here x xs a is
has_at (x ∷ xs) (suc i) a low is = has-later x xs a (has_at xs i a (omega (arith, low)) is)

before_at : (xs : List ℕ) (i j a b : ℕ) → i < j → j < length xs → get_or xs i 0 ≡ a → get_or xs j 0 ≡ b → stands_before xs a b ≡ true
before_at [] i j a b less low first second = absurd (omega (arith, low))
before_at (x ∷ xs) i zero a b less low first second = absurd (omega (arith, less))
before_at (x ∷ xs) zero (suc j) a b less low first second = before-here x xs a b first ∙ has_at xs j b (omega (arith, low)) second
before_at (x ∷ xs) (suc i) (suc j) a b less low first second = elim (cases_eq x a) [
  | inl same ↦ before-here x xs a b same ∙ has_at xs j b (omega (arith, low)) second
  | inr other ↦ before-later x xs a b other ∙ before_at xs i j a b (omega (arith, less)) (omega (arith, low)) first second
]

pub order_below : (rows : List ℕ) (n : ℕ) (order : List ℕ) → n ≤ length order → IsOrder rows n order → IsOrderBelow (has_edge rows) n (take n order)
order_below rows n order fits is = record {
  long = long;
  all = λ a low. let at = is.reached a low in has_at (take n order) at.0 a (omega (arith, long, at.1)) (get_or-take n order at.0 0 at.1 ∙ at.2);
  respects = λ a b low low' edge.
      let at = is.reached a low in
      let to = is.reached b low' in
      elim (cases_lt at.0 to.0) [
        | inl less ↦ before_at (take n order) at.0 to.0 a b less (omega (arith, long, to.1)) (get_or-take n order at.0 0 at.1 ∙ at.2) (get_or-take n order to.0 0 to.1 ∙ to.2)
        | inr not_less ↦ absurd (
            both_ways (has_edge rows (get_or order at.0 0) (get_or order to.0 0)) (is.forward to.0 at.0 not_less at.1) (rw (at.2, to.2) edge))
      ];
}
  where
    long : length (take n order) ≡ n
    long = length-take-le n order fits

-- each has an edge to the next, and the last to z
along : (edge : ℕ → ℕ → Bool) (b : ℕ) (rest : List ℕ) (z : ℕ)
    → ((i : ℕ) → suc i < length (b ∷ rest) → edge (get_or (b ∷ rest) i 0) (get_or (b ∷ rest) (suc i) 0) ≡ true)
    → edge (get_or (b ∷ rest) (length rest) 0) z ≡ true → list_all (λ e. edge e.0 e.1) (zip (b ∷ rest) (rest ++ z ∷ [])) ≡ true
along edge b [] z next back = and_from _ _ back refl
along edge b (d ∷ ds) z next back = and_from _ _ (next 0 (omega arith)) (along edge d ds z (λ i low. next (suc i) (omega (arith, low))) back)

round : (edge : ℕ → ℕ → Bool) (n : ℕ) (numbers : List ℕ) → 1 ≤ length numbers → length numbers ≤ n
    → ((i : ℕ) → i < length numbers → get_or numbers i 0 < n)
    → ((i : ℕ) → suc i < length numbers → edge (get_or numbers i 0) (get_or numbers (suc i) 0) ≡ true)
    → ((i : ℕ) → suc i ≡ length numbers → edge (get_or numbers i 0) (get_or numbers 0 0) ≡ true) → IsCycleBelow edge n numbers
round edge n [] some most below next back = absurd (omega (arith, some))
round edge n (b ∷ rest) some most below next back = record {
  some = some;
  most = most;
  below = All-from_get_or (λ a. a < n) (b ∷ rest) 0 below;
  edges = along edge b rest b next (back (length rest) refl);
}

pub cycle_below : (rows : List ℕ) (n : ℕ) (cycle : List ℕ) (len : ℕ) → len ≤ length cycle → IsCycle rows n cycle len → IsCycleBelow (has_edge rows) n (take len cycle)
cycle_below rows n cycle len fits is =
    round (has_edge rows) n (take len cycle) (omega (arith, long, is.some)) (omega (arith, long, is.fits))
    (λ i low. let low' = within i low in rw (get_or-take len cycle i 0 low') (is.below i low'))
    (λ i low.
    let low' : suc i < len = omega (arith, long, low) in
    let e : suc i ≡ i + 1 = omega arith in
    rw (get_or-take len cycle i 0 (omega (arith, low')), get_or-take len cycle (suc i) 0 low', e) (is.next i (omega (arith, low'))))
    (λ i end.
    let some = is.some in
    rw (get_or-take len cycle i 0 (omega (arith, long, end)), get_or-take len cycle 0 0 some) (is.back i (omega (arith, long, end))))
  where
    long : length (take len cycle) ≡ len
    long = length-take-le len cycle fits

    within : (i : ℕ) → i < length (take len cycle) → i < len
    within i low = omega (arith, long, low)
