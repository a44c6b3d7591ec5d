-- Showing candidates by their numbers, and a cycle for each.
use Rattle.std.proofs.Common.{◌≡◌, ℕ, zero, suc, ◌<◌, Some, List, [], ◌∷◌, length, refl, sym, ◌∙◌, arith}
use Rattle.std.specs.Prelude.{slice_get}
use Rattle.std.specs.List.{AllZip, Contains}
use Rattle.std.proofs.lemmas.Option.{slice_get_within}
use Rattle.fs_model.specs.declared.test.Test.{Test}
use Rattle.fs_cert_evidence.specs.Candidates.{Candidate, IsShowing}
use Rattle.fs_cert_evidence.specs.Listings.{IsListing}

same_Some : {X : Type 0} (x y : X) → Some x ≡ Some y → x ≡ y
same_Some x y e = cc

pub same_item : {X : Type 0} (xs : List X) (k : ℕ) (x y : X) → slice_get xs k ≡ Some x → slice_get xs k ≡ Some y → x ≡ y
same_item xs k x y e f = same_Some x y (sym e ∙ f)

contains_at : {X : Type 0} (xs : List X) (k : ℕ) (x : X) → slice_get xs k ≡ Some x → Contains xs x
contains_at {X = X} [] k x e = absurd (let low = slice_get_within {A = X} [] k x e in omega (arith, low))
contains_at (y ∷ ys) zero x e = (0, omega arith, same_Some y x e)
contains_at (y ∷ ys) (suc k) x e = let later = contains_at ys k x e in (suc later.0, let low = later.1 in omega (arith, low), later.2)

pub showing_at : (t : Test) (cs : List Candidate) (k : ℕ) (c : Candidate) → IsListing t cs → slice_get cs k ≡ Some c → IsShowing t c
showing_at t cs k c listing there = (listing.exact c).0 (contains_at cs k c there)

pub item_at : {X : Type 0} (xs : List X) (k : ℕ) → k < length xs → (x : X) × (slice_get xs k ≡ Some x)
item_at [] k low = absurd (omega (arith, low))
item_at (x ∷ xs) zero low = (x, refl)
item_at (x ∷ xs) (suc k) low = item_at xs k (omega (arith, low))

-- what holds place by place
pub zipped : {X Y : Type 0} (R : X → Y → Type 0) (xs : List X) (ys : List Y) → length ys ≡ length xs
    → ((k : ℕ) (y : Y) → slice_get ys k ≡ Some y → (x : X) → slice_get xs k ≡ Some x → R x y) → AllZip R xs ys
zipped R [] [] long each = tt
zipped R [] (y ∷ ys) long each = absurd (omega (arith, long))
zipped R (x ∷ xs) [] long each = absurd (omega (arith, long))
zipped R (x ∷ xs) (y ∷ ys) long each =
    (each 0 y refl x refl, zipped R xs ys (omega (arith, long)) (λ k z there w here. each (suc k) z there w here))
