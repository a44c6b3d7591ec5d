-- Two tables of the same bytes give each placement over the slots of a test the same cost.
use Rattle.std.proofs.Common.{◌≡◌, ◌↔◌, ℕ, ◌+◌, List, [], ◌∷◌, Option, None, Some, is_some, unwrap_or, refl, ap, sym, ◌∙◌, subst}
use Rattle.std.specs.List.{AllByRecursion, fold}
use Rattle.serde_json.specs.Data.{Members}
use Rattle.fs_kinds.specs.declared.kind.Kind.{Kind}
use Rattle.fs_kinds.specs.declared.placement.Entry.{Entry}
use Rattle.fs_kinds.specs.declared.slot.Slot.{Slot}
use Rattle.fs_kinds.specs.Placement.{slots_of}
use Rattle.fs_kinds.specs.PriceTable.{PriceTable, price_of, weight_of, kind_cost, entry_cost, cost, is_offered, are_offered}
use Rattle.fs_kinds.specs.PriceObject.{ArePrices, IsTableOf}
use Rattle.fs_kinds.specs.Slot.{IsSlot}
use Rattle.fs_model.specs.declared.test.Test.{Test}
use Rattle.fs_model.specs.Slots.{slots}
use Rattle.fs_model.specs.Test.{IsBounded}
use Rattle.fs_model.specs.Allows.{IsPlacement}
use Rattle.fs_check_certificate.proofs.Words.{small_slots}
use Rattle.fs_app_place_and_order.specs.Place.{ArePricesOf}

-- the same price for each kind, and the same weight for each slot
pub record Agree (table other : PriceTable) : Type 0 where
  pub price : (kind : Kind) → price_of table kind ≡ price_of other kind
  pub weight : (s : Slot) → IsSlot s → weight_of table s ≡ weight_of other s

members_once : (bytes : List ℕ) (ms ns : Members) → ArePrices bytes ms → ArePrices bytes ns → ms ≡ ns
members_once bytes ms ns left right = let l = left.reads in let r = right.reads in cc

pub agree : (bytes : List ℕ) (table other : PriceTable) → ArePricesOf bytes table → ArePricesOf bytes other → Agree table other
agree bytes table other left right =
    let same : left.0 ≡ right.0 = members_once bytes left.0 right.0 left.1 right.1 in
    let here : IsTableOf right.0 table = subst (λ ms. IsTableOf ms table) same left.2 in
    record {
      price = λ kind. here.price kind ∙ sym (right.2.price kind);
      weight = λ s is. here.weight s is ∙ sym (right.2.weight s is);
    }

-- ---- costs

-- their numbers are of one byte
abbrev pub AreSlots : List Slot → Type 0
AreSlots = AllByRecursion IsSlot

module _ (table other : PriceTable) (same : Agree table other) where
  kind_cost_same : (kind : Option Kind) → kind_cost table kind ≡ kind_cost other kind
  kind_cost_same None = refl
  kind_cost_same (Some kind) = ap (λ o. unwrap_or o 0) (same.price kind)

  pub entry_same : (e : Entry) → IsSlot e.slot → entry_cost table e ≡ entry_cost other e
  entry_same e small = rw (kind_cost_same e.kind, same.weight e.slot small) refl

  -- what was summed up before stays as it is
  sum_same : (p : List Entry) (before : ℕ) → AreSlots (slots_of p)
      → fold (λ total e. total + entry_cost table e) before p ≡ fold (λ total e. total + entry_cost other e) before p
  sum_same [] before small = refl
  sum_same (e ∷ p) before small =
      ap (λ n. fold (λ total d. total + entry_cost table d) (before + n) p) (entry_same e small.0) ∙ sum_same p (before + entry_cost other e) small.1

  pub cost_same : (p : List Entry) → AreSlots (slots_of p) → cost table p ≡ cost other p
  cost_same p small = sum_same p 0 small

  pub offered_same : (kind : Option Kind) → is_offered table kind ≡ is_offered other kind
  offered_same None = refl
  offered_same (Some kind) = ap is_some (same.price kind)

  all_offered_same : (p : List Entry) → are_offered table p ≡ are_offered other p
  all_offered_same [] = refl
  all_offered_same (e ∷ p) = rw (offered_same e.kind, all_offered_same p) refl

pub same_costs : (t : Test) (table other : PriceTable) → Agree table other → IsBounded t → (p : List Entry) → slots_of p ≡ slots t → cost table p ≡ cost other p
same_costs t table other same h p over = cost_same table other same p (subst AreSlots (sym over) (small_slots t h))

pub same_placement : (t : Test) (table other : PriceTable) → Agree table other → IsBounded t → (p : List Entry) → IsPlacement t table p ↔ IsPlacement t other p
same_placement t table other same h p = (
  λ is. record { slots = is.slots; offered = sym (all_offered_same table other same p) ∙ is.offered },
  λ is. record { slots = is.slots; offered = all_offered_same table other same p ∙ is.offered },
)
