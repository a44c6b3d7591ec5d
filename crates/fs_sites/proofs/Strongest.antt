-- Where an outcome is allowed with rw,rw at each site, it is allowed with each placement.
use Rattle.std.proofs.Common.{◌≡◌, ℕ, zero, suc, true, Option, None, Some, option_and_then, List, [], ◌∷◌, slice_get, refl, sym, subst, ◌∙◌}
use Rattle.std.proofs.lemmas.Bool.{and_from}
use Rattle.fs_kinds.specs.declared.kind.Kind.{Kind}
use Rattle.fs_kinds.specs.declared.kind.Kind.TheVariants.{RwRw}
use Rattle.fs_kinds.specs.declared.placement.Entry.{Entry}
use Rattle.fs_kinds.specs.Kind.{Pair, ReadRead, ReadWrite, WriteRead, WriteWrite, is_subset}
use Rattle.fs_kinds.specs.Placement.{pairs_kept, slots_of, is_weaker}
use Rattle.fs_model_laws.proofs.PlacedPairs.{subset_from}
use Rattle.fs_model_laws.proofs.Weakening.{kept-at, allows-no-less}
use Rattle.fs_board_offers.specs.Offers.{Offers, slots}
use Rattle.fs_sites.specs.Questions.{AllowsIn, Part, image, kind_of, top}
use Rattle.fs_sites.specs.declared.question.Place.{Place}
use Rattle.fs_sites.proofs.Unbroken.{slots-image}

all-kept : (pair : Pair) → pairs_kept (Some RwRw) pair ≡ true
all-kept ReadRead = refl
all-kept ReadWrite = refl
all-kept WriteRead = refl
all-kept WriteWrite = refl

-- a site that has an entry has rw,rw
kind-top : (offers : Offers) (p : List Entry) (site : ℕ) (e : Entry) → slots_of p ≡ slots offers → slice_get p site ≡ Some e
    → kind_of site (top offers) ≡ Some RwRw
kind-top [] [] site e same at = absurd (cc)
kind-top [] (f ∷ p) site e same at = absurd (cc)
kind-top (o ∷ offers) [] site e same at = absurd (cc)
kind-top (o ∷ offers) (f ∷ p) zero e same at = refl
kind-top (o ∷ offers) (f ∷ p) (suc site) e same at = kind-top offers p site e (cc) at

module _ (offers : Offers) (p : List Entry) (same : slots_of p ≡ slots offers) where
  keeps-no-more : (site : ℕ) → is_subset (pairs_kept (kind_of site p)) (pairs_kept (kind_of site (top offers))) ≡ true
  keeps-no-more site = by (slice_get p site) refl
    where
      by : (o : Option Entry) → slice_get p site ≡ o
          → is_subset (pairs_kept (option_and_then (λ e. e.kind) o)) (pairs_kept (kind_of site (top offers))) ≡ true
      by None at = refl
      by (Some e) at =
          subst (λ (kind : Option Kind). is_subset (pairs_kept e.kind) (pairs_kept kind) ≡ true) (sym (kind-top offers p site e same at))
          (subset_from (pairs_kept e.kind) (pairs_kept (Some RwRw)) (λ pair one. all-kept pair))

  weaker : (places : List Place) → is_weaker (image places p) (image places (top offers)) ≡ true
  weaker [] = refl
  weaker (x ∷ xs) = and_from _ _ (keeps-no-more x.site) (weaker xs)

  pub all-allowed : (parts : List Part) → AllowsIn parts (top offers) → AllowsIn parts p
  all-allowed parts allows =
      let part = allows.1 in
      let slots = slots-image p part.places ∙ sym (slots-image (top offers) part.places) in
      let kept = kept-at (image part.places p) (image part.places (top offers)) slots (weaker part.places) in
      (allows.0, part, allows.2, (allows-no-less part.test (image part.places p) (image part.places (top offers)) kept).allows allows.3)
