-- What may stand at each slot of a question, and what it costs there. That is all that a search knows of prices, and
-- prices and weights make offers.
use Rattle.std.specs.Prelude.{◌≡◌, ℕ, ◌+◌, ◌*◌, ◌≤◌, ◌==◌, nat_lt, Bool, true, false, ◌&&◌, ◌||◌, if◌then◌else◌, Option, None, Some, is_some, unwrap_or, option_map, List, [], ◌∷◌, map, filter, slice_get, slice_index_or}
use Rattle.std.specs.List.{find, list_all, sum_by}
use Rattle.fs_kinds.specs.declared.kind.Kind.{Kind}
use Rattle.fs_kinds.specs.declared.placement.Entry.{Entry}
use Rattle.fs_kinds.specs.declared.slot.Slot.{Slot}
use Rattle.fs_kinds.specs.Kind.{all_kinds, table_index}
use Rattle.fs_kinds.specs.Placement.{slots_of}
use Rattle.fs_kinds.specs.PriceTable.{PriceTable, price_of as price_in, weight_of}
use Rattle.fs_kinds.specs.Slot.{is_same_slot, is_rising}
use Rattle.fs_model.specs.declared.test.Test.{Test}
use Rattle.fs_model.specs.Slots as test
use Rattle.fs_model.specs.Allows.{Allows}

-- ---- one slot

-- what a fence of each kind costs there, in table order, where it is offered; and the kind that is written there, if
-- any
pub record Offer : Type 0 where
  pub slot : Slot
  pub costs : List (Option ℕ)
  pub written : Option Kind

abbrev pub price_of : Offer → Kind → Option ℕ
price_of o kind = slice_index_or o.costs (table_index kind) None

-- no fence is always offered
abbrev pub is_offered : Offer → Option Kind → Bool
is_offered o None = true
is_offered o (Some kind) = is_some (price_of o kind)

abbrev pub kind_cost : Offer → Option Kind → ℕ
kind_cost o None = 0
kind_cost o (Some kind) = unwrap_or (price_of o kind) 0

-- none, and then the offered kinds in table order
abbrev pub options : Offer → List (Option Kind)
options o = None ∷ filter (is_offered o) (map (λ kind. Some kind) all_kinds)

abbrev pub is_kind : Option Kind → Kind → Bool
is_kind None kind = false
is_kind (Some other) kind = table_index other == table_index kind

-- the kind is written there, and costs something
abbrev pub is_kept : Offer → Kind → Bool
is_kept o kind = is_kind o.written kind && nat_lt 0 (kind_cost o (Some kind))

-- the order of what costs the same: such a kind, then none, then the table order
abbrev pub rank_in : Offer → Option Kind → ℕ
rank_in o None = 1
rank_in o (Some kind) = if is_kept o kind then 0 else 2 + table_index kind

-- the first in this order, where this is what is written
abbrev pub first_of : Offer → Option Kind → Option Kind
first_of o None = None
first_of o (Some kind) = if is_kept o kind then Some kind else None

abbrev pub first_kind : Offer → Option Kind
first_kind o = first_of o o.written

-- ---- all slots, which rise

abbrev pub Offers : Type 0
Offers = List Offer

abbrev pub slots : Offers → List Slot
slots = map (λ o. o.slot)

-- the greatest cost of a fence
abbrev pub most_cost : ℕ
most_cost = 1000000000

pub record AreOffers (offers : Offers) : Type 0 where
  pub rising : is_rising (slots offers) ≡ true
  pub small : (k : ℕ) (o : Offer) → slice_get offers k ≡ Some o → (kind : Option Kind) → kind_cost o kind ≤ most_cost

-- where there is no slot nothing is offered
abbrev pub nothing : Slot → Offer
nothing s = record { slot = s; costs = []; written = None }

abbrev pub offer_at : Offers → Slot → Offer
offer_at offers s = unwrap_or (find (λ o. is_same_slot o.slot s) offers) (nothing s)

-- ---- placements

abbrev pub is_offered_at : Offers → Entry → Bool
is_offered_at offers e = is_offered (offer_at offers e.slot) e.kind

abbrev pub are_offered : Offers → List Entry → Bool
are_offered offers = list_all (is_offered_at offers)

abbrev pub entry_cost : Offers → Entry → ℕ
entry_cost offers e = kind_cost (offer_at offers e.slot) e.kind

abbrev pub cost : Offers → List Entry → ℕ
cost offers = sum_by (entry_cost offers)

abbrev pub rank_at : Offers → Entry → ℕ
rank_at offers e = rank_in (offer_at offers e.slot) e.kind

-- the first slot at which two placements differ decides which comes first
abbrev pub precedes : Offers → List Entry → List Entry → Bool
precedes offers (e ∷ p) (f ∷ q) =
    nat_lt (rank_at offers e) (rank_at offers f) || (rank_at offers e == rank_at offers f) && precedes offers p q
precedes offers [] q = false
precedes offers (e ∷ p) [] = false

-- p costs less than q, or as much and is earlier
abbrev pub is_better : Offers → List Entry → List Entry → Bool
is_better offers p q =
    nat_lt (cost offers p) (cost offers q) || (cost offers p == cost offers q) && precedes offers p q

-- the slots in order, each with something that is offered there
pub record IsPlacement (offers : Offers) (p : List Entry) : Type 0 where
  pub slots : slots_of p ≡ slots offers
  pub offered : are_offered offers p ≡ true

-- p forbids the outcome, and every better placement allows it
pub record IsCheapest (t : Test) (offers : Offers) (p : List Entry) : Type 0 where
  pub placement : IsPlacement offers p
  pub forbids : Allows t p → ⊥
  pub better : (q : List Entry) → IsPlacement offers q → is_better offers q p ≡ true → Allows t q

-- ---- of prices

-- each kind that has a price, for its price times the slot's weight
abbrev pub offer_of : PriceTable → Slot → Offer
offer_of prices s = record {
  slot = s;
  costs = map (λ kind. option_map (λ n. n * weight_of prices s) (price_in prices kind)) all_kinds;
  written = None;
}

abbrev pub offers_for : PriceTable → List Slot → Offers
offers_for prices = map (offer_of prices)

-- at the slots of the test
abbrev pub offers_of : Test → PriceTable → Offers
offers_of t prices = offers_for prices (test.slots t)
