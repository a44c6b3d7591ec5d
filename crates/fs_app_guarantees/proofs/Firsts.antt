-- Of places in lists there is one first that fails.
use Rattle.std.proofs.Common.{◌≡◌, ℕ, zero, suc, None, Some, List, [], ◌∷◌, ◌++◌, refl, sym, ap, subst, All}
use Rattle.std.specs.Prelude.{slice_get, take}
use Rattle.std.specs.List.{AllZip}
use Rattle.std.proofs.lemmas.List.Elements.{All-head, All-tail}

pub same_Some : {X : Type 0} (x y : X) → Some x ≡ Some y → x ≡ y
same_Some x y e = cc

heads : {A : Type 0} {a b : A} {xs ys : List A} → a ∷ xs ≡ b ∷ ys → (a ≡ b) × (xs ≡ ys)
heads e = (cc, cc)

-- ---- in one list

module _ {A : Type 0} (P : A → Type 0) where
  all_at : (before : List A) (x : A) (after : List A) → All P (before ++ x ∷ after) → P x
  all_at [] x after all = All-head P x after all
  all_at (b ∷ before) x after all = all_at before x after (All-tail P b (before ++ x ∷ after) all)

  -- the first that fails, with what stands around it
  pub first_once : (before others : List A) (x y : A) (after rest : List A) → before ++ x ∷ after ≡ others ++ y ∷ rest
      → All P before → (P x → ⊥) → All P others → (P y → ⊥) → x ≡ y
  first_once [] [] x y after rest e h bad k not = (heads e).0
  first_once [] (o ∷ others) x y after rest e h bad k not = absurd (bad (subst P (sym (heads e).0) (All-head P o others k)))
  first_once (b ∷ before) [] x y after rest e h bad k not = absurd (not (subst P (heads e).0 (All-head P b before h)))
  first_once (b ∷ before) (o ∷ others) x y after rest e h bad k not =
      first_once before others x y after rest (heads e).1 (All-tail P b before h) bad (All-tail P o others k) not

  pub none_fails : (xs before : List A) (x : A) (after : List A) → xs ≡ before ++ x ∷ after → All P xs → (P x → ⊥) → ⊥
  none_fails xs before x after e all bad = bad (all_at before x after (subst (All P) e all))

-- ---- in two lists

module _ {A B : Type 0} (R : A → B → Type 0) where
  pub zip_at : (xs : List A) (ys : List B) (i : ℕ) (a : A) (b : B) → AllZip R xs ys → slice_get xs i ≡ Some a → slice_get ys i ≡ Some b → R a b
  zip_at [] ys i a b all left right = absurd (let none : None ≡ Some a = left in cc)
  zip_at (x ∷ xs) [] i a b all left right = absurd all
  zip_at (x ∷ xs) (y ∷ ys) zero a b all left right = subst (λ z. R z b) (same_Some x a left) (subst (R x) (same_Some y b right) all.0)
  zip_at (x ∷ xs) (y ∷ ys) (suc i) a b all left right = zip_at xs ys i a b all.1 left right

  -- the first place that fails
  pub place_once : (xs : List A) (ys : List B) (i j : ℕ) (a c : A) (b d : B) → slice_get xs i ≡ Some a → slice_get ys i ≡ Some b → (R a b → ⊥)
      → AllZip R (take i xs) (take i ys) → slice_get xs j ≡ Some c → slice_get ys j ≡ Some d → (R c d → ⊥) → AllZip R (take j xs) (take j ys) → i ≡ j
  place_once [] ys i j a c b d left right bad all other again not each = absurd (let none : None ≡ Some a = left in cc)
  place_once (x ∷ xs) [] i j a c b d left right bad all other again not each = absurd (let none : None ≡ Some b = right in cc)
  place_once (x ∷ xs) (y ∷ ys) zero zero a c b d left right bad all other again not each = refl
  place_once (x ∷ xs) (y ∷ ys) zero (suc j) a c b d left right bad all other again not each =
      absurd (bad (subst (λ z. R z b) (same_Some x a left) (subst (R x) (same_Some y b right) each.0)))
  place_once (x ∷ xs) (y ∷ ys) (suc i) zero a c b d left right bad all other again not each =
      absurd (not (subst (λ z. R z d) (same_Some x c other) (subst (R x) (same_Some y d again) all.0)))
  place_once (x ∷ xs) (y ∷ ys) (suc i) (suc j) a c b d left right bad all other again not each =
      ap suc (place_once xs ys i j a c b d left right bad all.1 other again not each.1)
