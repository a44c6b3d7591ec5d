-- A question of one test in which each slot is a site.
use Rattle.std.proofs.Common.{◌≡◌, ◌↔◌, ℕ, zero, suc, ◌+◌, Option, Some, option_and_then, List, [], ◌∷◌, map, drop, slice_get, refl, sym, ap, ap₂, subst, arith}
use Rattle.std.specs.List.{enumerate_from}
use Rattle.fs_kinds.specs.declared.placement.Entry.{Entry}
use Rattle.fs_kinds.specs.declared.slot.Slot.{Slot}
use Rattle.fs_kinds.specs.Placement.{slots_of}
use Rattle.fs_model.specs.declared.test.Test.{Test}
use Rattle.fs_model.specs.Allows.{Allows}
use Rattle.fs_board_offers.specs.Offers.{Offers, slots, IsCheapest}
use Rattle.fs_sites.specs.Alone.{alone, place_at, places_at}
use Rattle.fs_sites.specs.Questions.{Part, AllowsIn, IsCheapestIn, image}

head-dropped : {A : Type 0} (all : List A) (k : ℕ) (x : A) (xs : List A) → drop k all ≡ x ∷ xs → slice_get all k ≡ Some x
head-dropped [] zero x xs rest = absurd (cc)
head-dropped [] (suc k) x xs rest = absurd (cc)
head-dropped (y ∷ all) zero x xs rest = let same : y ≡ x = cc in ap (λ z. Some z) same
head-dropped (y ∷ all) (suc k) x xs rest = head-dropped all k x xs rest

tail-dropped : {A : Type 0} (all : List A) (k : ℕ) (x : A) (xs : List A) → drop k all ≡ x ∷ xs → drop (k + 1) all ≡ xs
tail-dropped [] zero x xs rest = absurd (cc)
tail-dropped [] (suc k) x xs rest = absurd (cc)
tail-dropped (y ∷ all) zero x xs rest = cc
tail-dropped (y ∷ all) (suc k) x xs rest = let e : suc k + 1 ≡ suc (k + 1) = omega arith in rw e (tail-dropped all k x xs rest)

-- the image of what is left
image-rest : (all : List Entry) (k : ℕ) (p : List Entry) → drop k all ≡ p → image (map place_at (enumerate_from k (slots_of p))) all ≡ p
image-rest all k [] rest = refl
image-rest all k (e ∷ p) rest =
    let here = head-dropped all k e p rest in
    ap₂ (λ (o : Option Entry) q. record { slot = e.slot; kind = option_and_then (λ f. f.kind) o } ∷ q) here
    (image-rest all (k + 1) p (tail-dropped all k e p rest))

pub image-itself : (offers : Offers) (p : List Entry) → slots_of p ≡ slots offers → image (places_at (slots offers)) p ≡ p
image-itself offers p same =
    subst (λ (ss : List Slot). image (places_at ss) p ≡ p) same (image-rest p 0 p refl)

module _ (t : Test) (offers : Offers) (p : List Entry) (same : slots_of p ≡ slots offers) where
  pub allows-in : Allows t p → AllowsIn (alone t offers).parts p
  allows-in allows =
      (0, record { test = t; places = places_at (slots offers) }, refl, subst (Allows t) (sym (image-itself offers p same)) allows)

  pub allows-out : AllowsIn (alone t offers).parts p → Allows t p
  allows-out allows = by allows.0 allows.1 allows.2 allows.3
    where
      by : (number : ℕ) (part : Part) → slice_get (alone t offers).parts number ≡ Some part → Allows part.test (image part.places p) → Allows t p
      by zero part at there =
          let one : record { test = t; places = places_at (slots offers) } ≡ part = cc in
          subst (Allows t) (image-itself offers p same) (subst (λ (x : Part). Allows x.test (image x.places p)) (sym one) there)
      by (suc number) part at there = absurd (cc)

pub cheapest-alone : (t : Test) (offers : Offers) (p : List Entry) → IsCheapestIn (alone t offers) p ↔ IsCheapest t offers p
cheapest-alone t offers p = (
  (λ is. record {
    placement = is.placement;
    forbids = λ allows. is.forbids (allows-in t offers p is.placement.slots allows);
    better = λ r placement better. allows-out t offers r placement.slots (is.better r placement better);
  }),
  (λ is. record {
    placement = is.placement;
    forbids = λ allows. is.forbids (allows-out t offers p is.placement.slots allows);
    better = λ r placement better. allows-in t offers r placement.slots (is.better r placement better);
  }),
)
