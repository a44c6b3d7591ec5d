-- The sites that copies name, and the fences that words put at them.
use Rattle.std.proofs.Common.{◌≡◌, ◌<◌, ◌∙◌, ℕ, inr, Bool, List, [], map, length, true, ap, sym, subst, Option, Some}
use Rattle.fs_kinds.specs.declared.fault.Fault.{Fault}
use Rattle.fs_kinds.specs.declared.fault.Fault.TheVariants.{NodeLimit}
use Rattle.fs_kinds.specs.declared.placement.Entry.{Entry}
use Rattle.fs_kinds.specs.Slot.{is_rising}
use Rattle.fs_model.specs.declared.test.Test.{Test}
use Rattle.fs_litmus.specs.Reads.{Reads}
use Rattle.fs_board_offers.specs.Offers.{Offers}
use Rattle.fs_sites.specs.declared.question.Place.{Place}
use Rattle.fs_sites.specs.Questions.{slots_at}
use Rattle.fs_app_sites.specs.Sites.{Copy, most_sites, places_of, slots_of, with_copies}
use Rattle.fs_app_sites.proofs.Questions.{same-slots}
use Rattle.fs_app_sites.specs.Sited.{AreFences, ArePut, AreSites, HaveSites, IsSitesFault}
use Rattle.fs_app_sites.specs.Place.{IsPlaceAsked}

-- of copies that were passed on
module _ (is_free : Bool) (bytes : List ℕ) (t : Test) (copies passed : List Copy) (same : passed ≡ copies) (have : HaveSites is_free bytes t copies) where
  pub are-sites : (places : List Place) (names : List (List ℕ)) → Reads bytes t → names ≡ with_copies [] passed → places ≡ places_of names passed
      → AreSites is_free bytes t places names
  are-sites places names reads named stand =
      record { copies = passed; reads = reads; have = subst (HaveSites is_free bytes t) (sym same) have; named = named; stand = stand }

  pub too-many : (f : Fault) → (f ≡ NodeLimit) × (most_sites < length (with_copies [] passed)) → IsSitesFault is_free bytes t f
  too-many f many = inr (many.0, (passed, subst (HaveSites is_free bytes t) (sym same) have, many.1))

pub rising-places : (copies passed : List Copy) (places : List Place) (names : List (List ℕ)) → passed ≡ copies → is_rising (slots_of copies) ≡ true
    → places ≡ places_of names passed → is_rising (slots_at places) ≡ true
rising-places copies passed places names same rising stand =
    ap (λ ps. is_rising (slots_at ps)) stand ∙ ap is_rising (same-slots names passed) ∙ ap (λ cs. is_rising (slots_of cs)) same ∙ rising

-- of places and names that were passed on
module _ {S : Type 0} (f : S → List ℕ) (is_free : Bool) (bytes : List ℕ) (t : Test) (places passed : List Place) (names given : List S) (same : passed ≡ places) (alike : given ≡ names) where
  pub are-fences : (words : List (List ℕ)) (kinds : List Entry) → AreSites is_free bytes t places (map f names)
      → ArePut (map f given) words (Some kinds) → AreFences is_free bytes words t passed kinds
  are-fences words kinds sites put = record {
    names = map f given;
    sites = subst (λ ns. AreSites is_free bytes t passed (map f ns)) (sym alike) (subst (λ ps. AreSites is_free bytes t ps (map f names)) (sym same) sites);
    put = put;
  }

  pub passed-asked : (prices : Option (List ℕ)) (offers : Option Offers) → IsPlaceAsked is_free bytes prices t places (map f names) offers
      → IsPlaceAsked is_free bytes prices t passed (map f given) offers
  passed-asked prices offers asked =
      subst (λ ns. IsPlaceAsked is_free bytes prices t passed (map f ns) offers) (sym alike)
      (subst (λ ps. IsPlaceAsked is_free bytes prices t ps (map f names) offers) (sym same) asked)
