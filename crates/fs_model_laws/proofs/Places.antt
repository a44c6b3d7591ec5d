-- What stands at a place of a list that was changed, and sums over such a list.
use Rattle.std.proofs.Common.{◌≡◌, ◌⊎◌, ℕ, zero, suc, ◌+◌, Bool, true, false, cond, ◌&&◌, Some, List, [], ◌∷◌, ◌++◌, map, filter, inl, inr, refl, sym, ap, ◌∙◌, length, arith}
use Rattle.std.specs.Prelude.{slice_get, slice_set}
use Rattle.std.specs.List.{sum_by, count_by}
use Rattle.std.proofs.lemmas.Bool.{true≢false}
use Rattle.std.proofs.lemmas.List.Sums.{sum_by-cons}

pub at-set : {X : Type 0} (xs : List X) (k : ℕ) (y : X) (j : ℕ) (x : X) → slice_get (slice_set xs k y) j ≡ Some x
    → (x ≡ y) ⊎ (slice_get xs j ≡ Some x)
at-set [] k y j x at = inr at
at-set (z ∷ zs) zero y zero x at = inl (cc)
at-set (z ∷ zs) zero y (suc j) x at = inr at
at-set (z ∷ zs) (suc k) y zero x at = inr at
at-set (z ∷ zs) (suc k) y (suc j) x at = at-set zs k y j x at

pub at-append : {X : Type 0} (xs ys : List X) (j : ℕ) (x : X) → slice_get (xs ++ ys) j ≡ Some x
    → (slice_get xs j ≡ Some x) ⊎ ((i : ℕ) × (slice_get ys i ≡ Some x))
at-append [] ys j x at = inr (j, at)
at-append (z ∷ zs) ys zero x at = inl at
at-append (z ∷ zs) ys (suc j) x at = at-append zs ys j x at

pub at-map : {X Y : Type 0} (f : X → Y) (xs : List X) (j : ℕ) (y : Y) → slice_get (map f xs) j ≡ Some y
    → (x : X) × (slice_get xs j ≡ Some x) × (y ≡ f x)
at-map f [] j y at = absurd (cc)
at-map f (x ∷ xs) zero y at = (x, refl, cc)
at-map f (x ∷ xs) (suc j) y at = at-map f xs j y at

-- the first or a later one of those that are picked
picked : {X : Type 0} (p : X → Bool) (z : X) (zs : List X) (j : ℕ) (x : X) (here : Bool) → p z ≡ here
    → slice_get (cond here (z ∷ zs) zs) j ≡ Some x → ((i : ℕ) → slice_get zs i ≡ Some x → p x ≡ true) → p x ≡ true
picked p z zs zero x true is at later = let same : z ≡ x = cc in sym (ap p same) ∙ is
picked p z zs (suc j) x true is at later = later j at
picked p z zs j x false is at later = later j at

pub at-filter : {X : Type 0} (p : X → Bool) (xs : List X) (j : ℕ) (x : X) → slice_get (filter p xs) j ≡ Some x → p x ≡ true
at-filter p [] j x at = absurd (cc)
at-filter p (z ∷ zs) j x at = picked p z (filter p zs) j x (p z) refl at (λ i there. at-filter p zs i x there)

pub at-more : {X : Type 0} (xs ys : List X) (j : ℕ) (x : X) → slice_get xs j ≡ Some x → slice_get (xs ++ ys) j ≡ Some x
at-more [] ys j x at = absurd (cc)
at-more (z ∷ zs) ys zero x at = at
at-more (z ∷ zs) ys (suc j) x at = at-more zs ys j x at

-- the first one after a list
pub at-end : {X : Type 0} (xs ys : List X) (n j : ℕ) (x : X) → n ≡ length xs + j → slice_get ys j ≡ Some x
    → slice_get (xs ++ ys) n ≡ Some x
at-end [] ys n j x is at = let same : n ≡ j = omega (arith, is) in ap (slice_get ys) same ∙ at
at-end (z ∷ zs) ys zero j x is at = absurd (omega (arith, is))
at-end (z ∷ zs) ys (suc n) j x is at = at-end zs ys n j x (omega (arith, is)) at

-- a sum changes by the one that changed
pub sum-set : {X : Type 0} (f : X → ℕ) (xs : List X) (k : ℕ) (x y : X) → slice_get xs k ≡ Some x
    → sum_by f (slice_set xs k y) + f x ≡ sum_by f xs + f y
sum-set f [] k x y at = absurd (cc)
sum-set f (z ∷ zs) zero x y at =
    let same : f z ≡ f x = ap f (let e : z ≡ x = cc in e) in
    let old = sum_by-cons f z zs in
    let new = sum_by-cons f y zs in
    omega (arith, same, old, new)
sum-set f (z ∷ zs) (suc k) x y at =
    let rest = sum-set f zs k x y at in
    let old = sum_by-cons f z zs in
    let new = sum_by-cons f z (slice_set zs k y) in
    omega (arith, rest, old, new)

pub length-set : {X : Type 0} (xs : List X) (k : ℕ) (y : X) → length (slice_set xs k y) ≡ length xs
length-set [] k y = refl
length-set (z ∷ zs) zero y = refl
length-set (z ∷ zs) (suc k) y = ap suc (length-set zs k y)

-- ---- counts

abbrev pub count_one : Bool → ℕ
count_one b = cond b 1 0

pub count-cons : {X : Type 0} (p : X → Bool) (x : X) (xs : List X) → count_by p (x ∷ xs) ≡ count_one (p x) + count_by p xs
count-cons p x xs = sum_by-cons (λ y. count_one (p y)) x xs

none-first : {X : Type 0} (p : X → Bool) (z : X) (zs : List X) (k : ℕ) (x : X) → count_by p (z ∷ zs) ≡ 0
    → slice_get (z ∷ zs) k ≡ Some x → (here : Bool) → p z ≡ here
    → ((i : ℕ) → count_by p zs ≡ 0 → slice_get zs i ≡ Some x → p x ≡ false) → p x ≡ false
none-first p z zs k x none at true is later =
    let split = count-cons p z zs in
    let one : count_one (p z) ≡ 1 = ap count_one is in
    absurd (omega (arith, split, one, none))
none-first p z zs zero x none at false is later = let same : z ≡ x = cc in sym (ap p same) ∙ is
none-first p z zs (suc k) x none at false is later =
    let split = count-cons p z zs in
    later k (omega (arith, split, none)) at

-- where none passes, no place has one that does
pub none-counted : {X : Type 0} (p : X → Bool) (xs : List X) (k : ℕ) (x : X) → count_by p xs ≡ 0 → slice_get xs k ≡ Some x → p x ≡ false
none-counted p [] k x none at = absurd (cc)
none-counted p (z ∷ zs) k x none at = none-first p z zs k x none at (p z) refl (λ i rest there. none-counted p zs i x rest there)

-- where one passes, it is at one place
pub record IsOnce {X : Type 0} (p : X → Bool) (xs : List X) : Type 0 where
  pub number : ℕ
  pub item : X
  pub at : slice_get xs number ≡ Some item
  pub passes : p item ≡ true
  pub only : (k : ℕ) (other : X) → slice_get xs k ≡ Some other → p other ≡ true → k ≡ number

module _ {X : Type 0} (p : X → Bool) (z : X) (zs : List X) where
  only-first : count_by p zs ≡ 0 → (k : ℕ) (other : X) → slice_get (z ∷ zs) k ≡ Some other → p other ≡ true → k ≡ 0
  only-first none zero other at passes = refl
  only-first none (suc k) other at passes = absurd (true≢false (sym passes ∙ none-counted p zs k other none at))

  only-later : p z ≡ false → (n : ℕ) → ((k : ℕ) (other : X) → slice_get zs k ≡ Some other → p other ≡ true → k ≡ n)
      → (k : ℕ) (other : X) → slice_get (z ∷ zs) k ≡ Some other → p other ≡ true → k ≡ suc n
  only-later away n only zero other at passes =
      let same : z ≡ other = cc in
      absurd (true≢false (sym passes ∙ (sym (ap p same) ∙ away)))
  only-later away n only (suc k) other at passes = ap suc (only k other at passes)

  once-first : count_by p (z ∷ zs) ≡ 1 → (here : Bool) → p z ≡ here → (count_by p zs ≡ 1 → IsOnce p zs) → IsOnce p (z ∷ zs)
  once-first one true is later =
      let split = count-cons p z zs in
      let first : count_one (p z) ≡ 1 = ap count_one is in
      record {
        number = 0;
        item = z;
        at = refl;
        passes = is;
        only = only-first (omega (arith, split, first, one));
      }
  once-first one false is later =
      let split = count-cons p z zs in
      let first : count_one (p z) ≡ 0 = ap count_one is in
      let rest = later (omega (arith, split, first, one)) in
      record {
        number = suc rest.number;
        item = rest.item;
        at = rest.at;
        passes = rest.passes;
        only = only-later is rest.number rest.only;
      }

pub once-counted : {X : Type 0} (p : X → Bool) (xs : List X) → count_by p xs ≡ 1 → IsOnce p xs
once-counted p [] one = absurd (omega (arith, one))
once-counted p (z ∷ zs) one = once-first p z zs one (p z) refl (λ rest. once-counted p zs rest)

pub count-same : {X : Type 0} (p q : X → Bool) → ((x : X) → p x ≡ q x) → (xs : List X) → count_by p xs ≡ count_by q xs
count-same p q same [] = refl
count-same p q same (x ∷ xs) =
    let first = count-cons p x xs in
    let second = count-cons q x xs in
    let here : count_one (p x) ≡ count_one (q x) = ap count_one (same x) in
    let rest = count-same p q same xs in
    omega (arith, first, second, here, rest)

pub count-map : {X Y : Type 0} (p : Y → Bool) (f : X → Y) (xs : List X) → count_by p (map f xs) ≡ count_by (λ x. p (f x)) xs
count-map p f [] = refl
count-map p f (x ∷ xs) =
    let first = count-cons p (f x) (map f xs) in
    let second = count-cons (λ y. p (f y)) x xs in
    let rest = count-map p f xs in
    omega (arith, first, second, rest)

filter-first : {X : Type 0} (p f : X → Bool) (x : X) (xs : List X) (here : Bool) → f x ≡ here
    → count_by p (filter f xs) ≡ count_by (λ y. f y && p y) xs
    → count_by p (cond (f x) (x ∷ filter f xs) (filter f xs)) ≡ count_by (λ y. f y && p y) (x ∷ xs)
filter-first p f x xs true is rest =
    let kept : count_by p (cond (f x) (x ∷ filter f xs) (filter f xs)) ≡ count_by p (x ∷ filter f xs) =
    ap (λ b. count_by p (cond b (x ∷ filter f xs) (filter f xs))) is in
    let first = count-cons p x (filter f xs) in
    let second = count-cons (λ y. f y && p y) x xs in
    let here : count_one (f x && p x) ≡ count_one (p x) = ap (λ b. count_one (b && p x)) is in
    omega (arith, kept, first, second, here, rest)
filter-first p f x xs false is rest =
    let kept : count_by p (cond (f x) (x ∷ filter f xs) (filter f xs)) ≡ count_by p (filter f xs) =
    ap (λ b. count_by p (cond b (x ∷ filter f xs) (filter f xs))) is in
    let second = count-cons (λ y. f y && p y) x xs in
    let here : count_one (f x && p x) ≡ 0 = ap (λ b. count_one (b && p x)) is in
    omega (arith, kept, second, here, rest)

pub count-filter : {X : Type 0} (p f : X → Bool) (xs : List X) → count_by p (filter f xs) ≡ count_by (λ x. f x && p x) xs
count-filter p f [] = refl
count-filter p f (x ∷ xs) = filter-first p f x xs (f x) refl (count-filter p f xs)

and-true : (a : Bool) → (a && true) ≡ a
and-true true = refl
and-true false = refl

and-false : (a : Bool) → (a && false) ≡ false
and-false true = refl
and-false false = refl

-- a count under a second test that is the same for all
pub count-and : {X : Type 0} (p : X → Bool) (b : Bool) (xs : List X) → count_by (λ x. p x && b) xs ≡ cond b (count_by p xs) 0
count-and p true xs = count-same (λ x. p x && true) p (λ x. and-true (p x)) xs
count-and p false [] = refl
count-and p false (x ∷ xs) =
    let first = count-cons (λ y. p y && false) x xs in
    let here : count_one (p x && false) ≡ 0 = ap count_one (and-false (p x)) in
    let rest = count-and p false xs in
    omega (arith, first, here, rest)
