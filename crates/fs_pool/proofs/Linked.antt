-- Hands stay linked where one of them makes a move, and where the last one goes.
use Rattle.std.proofs.Common.{◌≡◌, ℕ, zero, suc, Some, List, [], ◌∷◌, ◌++◌, refl, sym, subst, inl, inr, ◌⊎◌, ⊎_elim}
use Rattle.std.specs.Prelude.{slice_get, slice_set}
use Rattle.fs_pool.specs.Ring.{Hand, AreLinked, IsSameHand}
use Rattle.fs_pool.proofs.Rings.{linked_same}

same_itself : (h : Hand) → IsSameHand h h
same_itself h = (refl, refl, refl, refl)

at_set : (hs : List Hand) (i k : ℕ) (h g : Hand) → slice_get (slice_set hs i h) k ≡ Some g → (h ≡ g) ⊎ (slice_get hs k ≡ Some g)
at_set [] i k h g e = inr e
at_set (x ∷ xs) zero zero h g e = inl (cc)
at_set (x ∷ xs) zero (suc k) h g e = inr e
at_set (x ∷ xs) (suc i) zero h g e = inr e
at_set (x ∷ xs) (suc i) (suc k) h g e = at_set xs i k h g e

pub linked_set : (hs : List Hand) (i : ℕ) (old new : Hand) → slice_get hs i ≡ Some old → IsSameHand old new → AreLinked hs → AreLinked (slice_set hs i new)
linked_set hs i old new at same linked =
    linked_same hs (slice_set hs i new)
    (λ k h e.
    ⊎_elim (λ (is : new ≡ h). (i, old, at, subst (IsSameHand old) is same)) (λ (was : slice_get hs k ≡ Some h). (k, h, was, same_itself h)) (at_set hs i k new h e))
    linked

get_front : (xs ys : List Hand) (k : ℕ) (h : Hand) → slice_get xs k ≡ Some h → slice_get (xs ++ ys) k ≡ Some h
get_front [] ys k h e = absurd (cc)
get_front (x ∷ xs) ys zero h e = e
get_front (x ∷ xs) ys (suc k) h e = get_front xs ys k h e

pub linked_front : (hs xs ys : List Hand) → hs ≡ xs ++ ys → AreLinked hs → AreLinked xs
linked_front hs xs ys is linked i k g h at_g at_h = linked i k g h (widen i g at_g) (widen k h at_h)
  where
    widen : (j : ℕ) (x : Hand) → slice_get xs j ≡ Some x → slice_get hs j ≡ Some x
    widen j x at = subst (λ (zs : List Hand). slice_get zs j ≡ Some x) (sym is) (get_front xs ys j x at)
