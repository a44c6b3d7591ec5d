-- Those that pass a test with some of others do so with some of these others that are kept.
use Rattle.std.proofs.Common.{◌≡◌, Bool, true, false, cond, ◌||◌, List, [], ◌∷◌, map, filter, Contains, refl, ◌∙◌, ap}
use Rattle.std.specs.List.{list_any}
use Rattle.fs_values.proofs.Contained.{later_in}
use Rattle.fs_verdict_laws.proofs.Lists.{first_in, any_in}

module _ {R S : Type 0} (steps : R → S) (t : S → S → Bool) where
  first_kept : (b kept : Bool) (o : R) (rest : List R) (x : S) → t x (steps o) ≡ b → (b ≡ true → kept ≡ true)
      → list_any (t x) (map steps (cond kept (o ∷ rest) rest)) ≡ (b || list_any (t x) (map steps rest))
  first_kept true kept o rest x e up =
      ap (λ k. list_any (t x) (map steps (cond k (o ∷ rest) rest))) (up refl)
      ∙ ap (λ b. b || list_any (t x) (map steps rest)) e
  first_kept false true o rest x e up = ap (λ b. b || list_any (t x) (map steps rest)) e
  first_kept false false o rest x e up = refl

  any_kept : (all : List S) (x : S) → Contains all x → (others : List R)
      → list_any (t x) (map steps (filter (λ o. list_any (λ y. t y (steps o)) all) others)) ≡ list_any (t x) (map steps others)
  any_kept all x has [] = refl
  any_kept all x has (o ∷ others) =
      first_kept (t x (steps o)) (list_any (λ y. t y (steps o)) all) o (filter (λ o. list_any (λ y. t y (steps o)) all) others) x refl
      (any_in (λ y. t y (steps o)) all x has)
      ∙ ap (λ b. t x (steps o) || b) (any_kept all x has others)

  filter_there : (p q : R → Bool) (xs : List R) → ((x : R) → Contains (map steps xs) (steps x) → p x ≡ q x) → filter p xs ≡ filter q xs
  filter_there p q [] e = refl
  filter_there p q (x ∷ xs) e =
      ap (λ b. cond b (x ∷ filter p xs) (filter p xs)) (e x (first_in (steps x) (steps x) (map steps xs) refl))
      ∙ ap (λ ys. cond (q x) (x ∷ ys) ys) (filter_there p q xs (λ y has. e y (later_in (steps x) (map steps xs) (steps y) has)))

  pub filter_by_kept : (xs others : List R)
      → filter (λ x. list_any (t (steps x)) (map steps (filter (λ o. list_any (λ y. t y (steps o)) (map steps xs)) others))) xs
      ≡ filter (λ x. list_any (t (steps x)) (map steps others)) xs
  filter_by_kept xs others = filter_there _ _ xs (λ x has. any_kept (map steps xs) (steps x) has others)
