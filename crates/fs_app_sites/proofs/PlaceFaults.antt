-- Which fault is answered first.
use Rattle.std.proofs.Common.{◌≡◌, ◌≢◌, ◌⊎◌, inl, inr, ℕ, Bool, true, List, Option, Some, length, sym, subst}
use Rattle.serde_json.specs.Data.{Data}
use Rattle.fs_kinds.specs.declared.fault.Fault.{Fault}
use Rattle.fs_kinds.specs.declared.fault.Fault.TheVariants.{BadFence, BadWitness, Memory, TooBig}
use Rattle.fs_kinds.specs.declared.fault.Limit.TheVariants.{Instructions}
use Rattle.fs_kinds.specs.declared.placement.Entry.{Entry}
use Rattle.fs_model.specs.declared.test.Test.{Test}
use Rattle.fs_model.specs.Witness.{Witness}
use Rattle.fs_litmus.specs.Fence.{IsShort}
use Rattle.fs_cert_evidence.specs.WitnessFile.{IsWitnessFault, IsWitnessFile}
use Rattle.fs_board_offers.specs.Offers.{Offers}
use Rattle.fs_sites.specs.declared.question.Place.{Place}
use Rattle.fs_app_place_and_order.proofs.Faults.{is_memory}
use Rattle.fs_app_sites.specs.Sited.{AreBadWords, AreFences, ArePut, AreSites, IsSitedFault}
use Rattle.fs_app_sites.specs.Place.{AreGivenPrices, IsFirstSitesPlaceFault, IsGivenPricesFault, IsPlaceAsked, are_offered, fenced_at}
use Rattle.fs_app_sites.specs.Place as place
use Rattle.fs_app_sites.specs.Order.{IsFirstSitesOrderFault}
use Rattle.fs_app_sites.specs.Order as order

module _ (is_free : Bool) (test : List ℕ) (prices : Option (List ℕ)) (words : List (List ℕ)) where
  pub place-memory : (f : Fault) → f ≡ Memory → IsFirstSitesPlaceFault is_free test prices words f
  place-memory f e = subst (IsFirstSitesPlaceFault is_free test prices words) (sym e) place.of_memory

  pub place-prices : (f : Fault) → (f ≢ Memory → IsGivenPricesFault prices f) → IsFirstSitesPlaceFault is_free test prices words f
  place-prices f h = elim (is_memory f) [ inl e ↦ place-memory f e | inr n ↦ place.of_prices (h n) ]

  pub place-file : (f : Fault) (given : Option Data) → AreGivenPrices prices given → (f ≢ Memory → IsSitedFault is_free test f)
      → IsFirstSitesPlaceFault is_free test prices words f
  place-file f given priced h = elim (is_memory f) [ inl e ↦ place-memory f e | inr n ↦ place.of_file given priced (h n) ]

  module _ (t : Test) (places : List Place) (names : List (List ℕ)) (offers : Option Offers) (asked : IsPlaceAsked is_free test prices t places names offers) where
    pub place-words : (f : Fault) → (f ≡ BadFence → AreBadWords names words) → (f ≡ BadFence) ⊎ (f ≡ Memory)
        → IsFirstSitesPlaceFault is_free test prices words f
    place-words f bad other = elim other [
      | inl e ↦ subst (IsFirstSitesPlaceFault is_free test prices words) (sym e) (place.of_words asked (bad e))
      | inr e ↦ place-memory f e
    ]

    pub place-length : (f : Fault) (kinds : List Entry) → ArePut names words (Some kinds) → are_offered offers kinds ≡ true
        → (f ≢ Memory → (f ≡ TooBig Instructions) × ¬ IsShort (fenced_at t places kinds)) → IsFirstSitesPlaceFault is_free test prices words f
    place-length f kinds put fits h = elim (is_memory f) [
      | inl e ↦ place-memory f e
      | inr n ↦ (
          let long = h n in
          subst (IsFirstSitesPlaceFault is_free test prices words) (sym long.0) (place.of_length kinds asked put fits long.1)
          )
    ]

module _ (is_free : Bool) (test witness : List ℕ) (words : List (List ℕ)) where
  pub order-memory : (f : Fault) → f ≡ Memory → IsFirstSitesOrderFault is_free test witness words f
  order-memory f e = subst (IsFirstSitesOrderFault is_free test witness words) (sym e) order.of_memory

  pub order-file : (f : Fault) → (f ≢ Memory → IsSitedFault is_free test f) → IsFirstSitesOrderFault is_free test witness words f
  order-file f h = elim (is_memory f) [ inl e ↦ order-memory f e | inr n ↦ order.of_file (h n) ]

  pub order-words : (f : Fault) (t : Test) (places : List Place) (names : List (List ℕ)) → AreSites is_free test t places names
      → (f ≡ BadFence → AreBadWords names words) → (f ≡ BadFence) ⊎ (f ≡ Memory) → IsFirstSitesOrderFault is_free test witness words f
  order-words f t places names sites bad other = elim other [
    | inl e ↦ subst (IsFirstSitesOrderFault is_free test witness words) (sym e) (order.of_words t places names sites (bad e))
    | inr e ↦ order-memory f e
  ]

  pub order-witness : (f : Fault) (t : Test) (places : List Place) (kinds : List Entry) → AreFences is_free test words t places kinds
      → (f ≡ BadWitness → (w : Witness) → IsWitnessFile (length t.codes) witness w → ⊥) → IsWitnessFault f
      → IsFirstSitesOrderFault is_free test witness words f
  order-witness f t places kinds fences bad other = elim other [
    | inl e ↦ subst (IsFirstSitesOrderFault is_free test witness words) (sym e) (order.of_witness t places kinds fences (bad e))
    | inr e ↦ order-memory f e
  ]
