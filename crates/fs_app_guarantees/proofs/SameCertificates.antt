-- A certificate that is valid for a table of some bytes is valid for each other table of the same bytes: both make the
-- same offers.
use Rattle.std.proofs.Common.{◌≡◌, ℕ, ◌*◌, Option, option_map, List, [], ◌∷◌, map, refl, ap, ap₂, subst}
use Rattle.fs_kinds.specs.declared.kind.Kind.{Kind}
use Rattle.fs_kinds.specs.declared.placement.Entry.{Entry}
use Rattle.fs_kinds.specs.declared.slot.Slot.{Slot}
use Rattle.fs_kinds.specs.Kind.{all_kinds}
use Rattle.fs_kinds.specs.PriceTable.{PriceTable, price_of, weight_of}
use Rattle.fs_kinds.specs.Slot.{IsSlot}
use Rattle.fs_model.specs.declared.test.Test.{Test}
use Rattle.fs_model.specs.Slots as test
use Rattle.fs_model.specs.Test.{IsBounded}
use Rattle.fs_cert_evidence.specs.Certificate.{Certificate}
use Rattle.fs_board_offers.specs.Offers.{Offers, offer_of, offers_for, offers_of}
use Rattle.fs_board_offers.specs.Priced.{IsValid}
use Rattle.fs_board_offers.specs.Valid as valid
use Rattle.fs_check_certificate.proofs.Words.{small_slots}
use Rattle.fs_app_guarantees.proofs.SamePrices.{Agree, AreSlots}

module _ (table other : PriceTable) (same : Agree table other) where
  costs_same : (s : Slot) → IsSlot s → (kinds : List Kind)
      → map (λ kind. option_map (λ n. n * weight_of table s) (price_of table kind)) kinds
      ≡ map (λ kind. option_map (λ n. n * weight_of other s) (price_of other kind)) kinds
  costs_same s small [] = refl
  costs_same s small (kind ∷ kinds) =
      ap₂ (λ c cs. c ∷ cs)
      (ap₂ (λ (w : ℕ) (price : Option ℕ). option_map (λ n. n * w) price) (same.weight s small) (same.price kind))
      (costs_same s small kinds)

  offer_same : (s : Slot) → IsSlot s → offer_of table s ≡ offer_of other s
  offer_same s small = ap (λ (cs : List (Option ℕ)). record (offer_of table s) { costs = cs }) (costs_same s small all_kinds)

  offers_same : (ss : List Slot) → AreSlots ss → offers_for table ss ≡ offers_for other ss
  offers_same [] small = refl
  offers_same (s ∷ ss) small = ap₂ (λ o os. o ∷ os) (offer_same s small.0) (offers_same ss small.1)

pub same_offers : (t : Test) (table other : PriceTable) → Agree table other → IsBounded t → offers_of t table ≡ offers_of t other
same_offers t table other same bounded = offers_same table other same (test.slots t) (small_slots t bounded)

pub same_certificates : (t : Test) (table other : PriceTable) → Agree table other → IsBounded t → (c : Certificate) (answer : Option (List Entry))
    → IsValid t table c answer → IsValid t other c answer
same_certificates t table other same bounded c answer is =
    subst (λ (offers : Offers). valid.IsValid t offers c answer) (same_offers t table other same bounded) is
