-- Lists that are made of others.
use Rattle.std.proofs.Common.{◌≡◌, ℕ, ◌+◌, ◌<◌, ◌≤◌, Bool, true, false, ◌||◌, ◌&&◌, List, [], ◌∷◌, ◌++◌, map, filter, length, get_or, take, drop, append_assoc, append-nil, refl, sym, ◌∙◌, ap, arith}
use Rattle.std.specs.Prelude.{cond, if◌then◌else◌}
use Rattle.std.specs.List.{enumerate_from, list_any}
use Rattle.std.proofs.lemmas.List.{get_or-map, length-map, map-append, take-map, drop-map, take_all, take_more}
use Rattle.std.proofs.lemmas.List.Elements.{filter-append}
use Rattle.std.proofs.lemmas.List.Folds.{list_any_at, list_any_more}
use Rattle.std.proofs.lemmas.List.FromFn.{length-enumerate_from, get_or-enumerate_from}

module _ {X Y : Type 0} (f : X → Y) (test : Y → Bool) where
  taken : (x : X) (xs : List X) (b : Bool) → map f (filter (λ y. test (f y)) xs) ≡ filter test (map f xs)
      → map f (cond b (x ∷ filter (λ y. test (f y)) xs) (filter (λ y. test (f y)) xs)) ≡ cond b (f x ∷ filter test (map f xs)) (filter test (map f xs))
  taken x xs true e = ap (λ ys. f x ∷ ys) e
  taken x xs false e = e

  -- what is kept may be seen before or after
  pub filter_seen : (xs : List X) → map f (filter (λ y. test (f y)) xs) ≡ filter test (map f xs)
  filter_seen [] = refl
  filter_seen (x ∷ xs) = taken x xs (test (f x)) (filter_seen xs)

  pub any_seen : (xs : List X) → list_any test (map f xs) ≡ list_any (λ y. test (f y)) xs
  any_seen [] = refl
  any_seen (x ∷ xs) = ap (λ b. test (f x) || b) (any_seen xs)

-- ---- tests one after the other

pub last_of_four : (a b d x e : Bool) → a ≡ true → b ≡ true → d ≡ true → e ≡ x → e ≡ (a && (b && (d && x)))
last_of_four a b d x e first second third is = rw (first, second, third) is

pub second_of_two : (a b x e : Bool) → a ≡ true → b ≡ false → e ≡ false → e ≡ (a && (b && x))
second_of_two a b x e first second is = rw (first, second) is

-- ---- a loop over a list, with numbers, that ends where a test passes

module _ {X Y : Type 0} (f : X → Y) (test : ℕ × Y → Bool) (xs : List X) where
  abbrev numbered : List (ℕ × Y)
  numbered = enumerate_from 0 (map f xs)

  long : length numbered ≡ length xs
  long = length-enumerate_from 0 (map f xs) ∙ length-map xs f

  numbered_at : (i : ℕ) (x : X) → i < length xs → x ≡ get_or xs i x → get_or numbered i (0, f x) ≡ (i, f x)
  numbered_at i x low is =
      get_or-enumerate_from 0 (map f xs) i (0, f x) (let e = length-map xs f in omega (arith, low, e))
      ∙ ap (λ y. (0 + i, y)) (get_or-map f xs i x (f x) low ∙ ap f (sym is))
      ∙ ap (λ (n : ℕ). (n, f x)) (omega arith)

  pub numbered_stop : (i : ℕ) (x : X) → i < length xs → x ≡ get_or xs i x → test (i, f x) ≡ true → list_any test numbered ≡ true
  numbered_stop i x low is holds =
      list_any_at test numbered i (0, f x) (let e = long in omega (arith, low, e)) (ap test (numbered_at i x low is) ∙ holds)

  pub numbered_go : (i : ℕ) (x : X) → i < length xs → x ≡ get_or xs i x → list_any test (take i numbered) ≡ false → test (i, f x) ≡ false
      → list_any test (take (i + 1) numbered) ≡ false
  numbered_go i x low is before fails =
      list_any_more test numbered i (0, f x) (let e = long in omega (arith, low, e))
      ∙ ap (λ b. b || test (get_or numbered i (0, f x))) before
      ∙ ap test (numbered_at i x low is) ∙ fails

  pub numbered_end : (i : ℕ) → length xs ≤ i → list_any test (take i numbered) ≡ false → list_any test numbered ≡ false
  numbered_end i high before =
      ap (list_any test) (sym (take_all i numbered (let e = long in omega (arith, high, e)))) ∙ before

pub map_seen : {X Y Z : Type 0} (f : X → Y) (g : Y → Z) (xs : List X) → map g (map f xs) ≡ map (λ x. g (f x)) xs
map_seen f g [] = refl
map_seen f g (x ∷ xs) = ap (λ ys. g (f x) ∷ ys) (map_seen f g xs)

-- ---- a loop that adds what it makes of each item

pub added : {X Y : Type 0} (G : List X → List Y) → ((xs ys : List X) → G (xs ++ ys) ≡ G xs ++ G ys) → (pre : List Y) (xs : List X) (i : ℕ) (d : X)
    → (old new : List Y) → i < length xs → old ≡ pre ++ G (take i xs) → new ≡ old ++ G (get_or xs i d ∷ [])
    → new ≡ pre ++ G (take (i + 1) xs)
added G joins pre xs i d old new low before more =
    more
    ∙ ap (λ ys. ys ++ G (get_or xs i d ∷ [])) before
    ∙ append_assoc pre (G (take i xs)) (G (get_or xs i d ∷ []))
    ∙ ap (λ ys. pre ++ ys) (sym (joins (take i xs) (get_or xs i d ∷ [])) ∙ ap G (sym (take_more xs i d low)))

module _ {X Y : Type 0} (p : Y → Bool) (f : X → Y) where
  abbrev pub made_and_kept : List X → List Y
  made_and_kept xs = filter p (map f xs)

  pub made_and_kept_joins : (xs ys : List X) → made_and_kept (xs ++ ys) ≡ made_and_kept xs ++ made_and_kept ys
  made_and_kept_joins xs ys = ap (filter p) (map-append f xs ys) ∙ filter-append p (map f xs) (map f ys)

  -- the item that is added is what is made of this one
  pub made_more : (pre : List Y) (xs : List X) (i : ℕ) (d : X) (old new : List Y) (y : Y) → i < length xs → old ≡ pre ++ made_and_kept (take i xs)
      → new ≡ old ++ filter p (y ∷ []) → y ≡ f (get_or xs i d) → new ≡ pre ++ made_and_kept (take (i + 1) xs)
  made_more pre xs i d old new y low before more is =
      added made_and_kept made_and_kept_joins pre xs i d old new low before (more ∙ ap (λ z. old ++ filter p (z ∷ [])) is)

  pub made_all : (pre : List Y) (xs : List X) (i : ℕ) (new : List Y) → length xs ≤ i → new ≡ pre ++ made_and_kept (take i xs) → new ≡ pre ++ made_and_kept xs
  made_all pre xs i new high is = is ∙ ap (λ ys. pre ++ made_and_kept ys) (take_all i xs high)

module _ {X Y : Type 0} (p : Y → Bool) (f : X → Y) (q : X → Bool) where
  abbrev pub kept_made_kept : List X → List Y
  kept_made_kept xs = filter p (map f (filter q xs))

  pub kept_joins : (xs ys : List X) → kept_made_kept (xs ++ ys) ≡ kept_made_kept xs ++ kept_made_kept ys
  kept_joins xs ys = ap (made_and_kept p f) (filter-append q xs ys) ∙ made_and_kept_joins p f (filter q xs) (filter q ys)

-- ---- one of two

pub first_if : {X : Type 0} (b : Bool) (x y : X) → b ≡ true → x ≡ (if b then x else y)
first_if b x y e = rw e refl

pub second_if : {X : Type 0} (b : Bool) (x y : X) → b ≡ false → y ≡ (if b then x else y)
second_if b x y e = rw e refl

-- ---- two that are added one after the other

pub both_added : {X : Type 0} (p : X → Bool) (none one two : List X) (a b x y : X) → none ≡ [] → one ≡ none ++ filter p (a ∷ [])
    → two ≡ one ++ filter p (b ∷ []) → a ≡ x → b ≡ y → two ≡ filter p (x ∷ y ∷ [])
both_added p none one two a b x y empty first second here there =
    second
    ∙ ap (λ zs. zs ++ filter p (b ∷ [])) (first ∙ ap (λ zs. zs ++ filter p (a ∷ [])) empty)
    ∙ sym (filter-append p (a ∷ []) (b ∷ []))
    ∙ ap (λ z. filter p (z ∷ b ∷ [])) here
    ∙ ap (λ z. filter p (x ∷ z ∷ [])) there

pub one_added : {X : Type 0} (p : X → Bool) (none one : List X) (a x : X) → none ≡ [] → one ≡ none ++ filter p (a ∷ []) → a ≡ x → one ≡ filter p (x ∷ [])
one_added p none one a x empty first here = first ∙ ap (λ zs. zs ++ filter p (a ∷ [])) empty ∙ ap (λ z. filter p (z ∷ [])) here

pub none_added : {X : Type 0} (xs : List X) → xs ≡ xs ++ []
none_added xs = sym (append-nil xs)

-- ---- a list with some in the place of one

pub parts_seen : {X Y : Type 0} (f : X → Y) (k : ℕ) (xs ys : List X)
    → map f (take k xs ++ ys ++ drop (k + 1) xs) ≡ take k (map f xs) ++ map f ys ++ drop (k + 1) (map f xs)
parts_seen f k xs ys =
    map-append f (take k xs ++ ys) (drop (k + 1) xs)
    ∙ ap (λ zs. zs ++ map f (drop (k + 1) xs)) (map-append f (take k xs) ys)
    ∙ ap (λ zs. zs ++ map f ys ++ map f (drop (k + 1) xs)) (sym (take-map f k xs))
    ∙ ap (λ zs. take k (map f xs) ++ map f ys ++ zs) (sym (drop-map f (k + 1) xs))
