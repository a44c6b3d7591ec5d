-- What the bytes of a price file say: a JSON object (RFC 8259) from kinds to prices, which may have
-- one more member, `weights`, an object from the names of slots to their weights.
use Rattle.std.specs.Prelude.{◌≡◌, ℕ, List, Option, None, Some, IsSome, option_and_then, unwrap_or, nat_le, ◌&&◌, if◌then◌else◌, codes, ◌⊎◌}
use Rattle.std.specs.Str.{IsUtf8}
use Rattle.serde_json.specs.Data.{Data, object, Members, no_members, member}
use Rattle.serde_json.specs.Find.{get_member, as_number, as_object, as_u64}
use Rattle.serde_json.specs.Read.{read}
use Rattle.fs_kinds.specs.declared.fault.Fault.{Fault}
use Rattle.fs_kinds.specs.declared.fault.Fault.TheVariants.{BadPrices, NoTop, Memory}
use Rattle.fs_kinds.specs.declared.kind.Kind.{Kind}
use Rattle.fs_kinds.specs.declared.kind.Kind.TheVariants.{RwRw}
use Rattle.fs_kinds.specs.declared.slot.Slot.{Slot}
use Rattle.fs_kinds.specs.Kind.{word}
use Rattle.fs_kinds.specs.Slot.{IsSlot, slot_name}
use Rattle.fs_kinds.specs.PriceTable.{PriceTable, price_of, weight_of, most_price, most_weight}

abbrev pub within : ℕ → ℕ → ℕ → Option ℕ
within least most n = if nat_le least n && nat_le n most then Some n else None

-- the whole number that the value is, where it is one from least to most
abbrev pub whole : ℕ → ℕ → Data → Option ℕ
whole least most d = option_and_then (within least most) (option_and_then as_u64 (as_number d))

abbrev pub EachMember : (List ℕ → Data → Type 0) → Members → Type 0
EachMember P no_members = Unit {0}
EachMember P (member key d ms) = P key d × EachMember P ms

-- a slot's name and a weight
abbrev pub IsWeight : List ℕ → Data → Type 0
IsWeight key d = (s : Slot) × IsSlot s × (key ≡ slot_name s) × IsSome (whole 0 most_weight d)

abbrev pub AreWeights : Data → Type 0
AreWeights d = (ms : Members) × (as_object d ≡ Some ms) × EachMember IsWeight ms

-- a kind and a price
abbrev pub IsPrice : List ℕ → Data → Type 0
IsPrice key d = (kind : Kind) × (key ≡ word kind) × IsSome (whole 1 most_price d)

abbrev pub weights_key : List ℕ
weights_key = codes "weights"

abbrev pub IsPriceMember : List ℕ → Data → Type 0
IsPriceMember key d = IsPrice key d ⊎ ((key ≡ weights_key) × AreWeights d)

-- the price that the object gives the kind
abbrev pub price_in : Members → Kind → Option ℕ
price_in ms kind = option_and_then (whole 1 most_price) (get_member (word kind) ms)

-- the weight that the object of weights gives the slot
abbrev pub weight_at : Slot → Data → Option ℕ
weight_at s d = option_and_then (λ ms. option_and_then (whole 0 most_weight) (get_member (slot_name s) ms)) (as_object d)

abbrev pub weight_in : Members → Slot → Option ℕ
weight_in ms s = option_and_then (weight_at s) (get_member weights_key ms)

-- the value is an object of prices, with or without `rw,rw`
abbrev pub IsPriceValue : Data → Members → Type 0
IsPriceValue d ms = (as_object d ≡ Some ms) × EachMember IsPriceMember ms

-- the faults of an object of weights, and those of an object of prices
abbrev pub IsWeightFault : Fault → Type 0
IsWeightFault fault = (fault ≡ BadPrices) ⊎ (fault ≡ Memory)

abbrev pub IsPriceFault : Fault → Type 0
IsPriceFault fault = (fault ≡ NoTop) ⊎ IsWeightFault fault

-- the bytes are the JSON text of an object of prices, with or without `rw,rw`
pub record ArePrices (bytes : List ℕ) (ms : Members) : Type 0 where
  pub utf8 : IsUtf8 bytes
  pub reads : read bytes ≡ Some (object ms)
  pub members : EachMember IsPriceMember ms

-- the table is that of the object, and has `rw,rw`
pub record IsTableOf (ms : Members) (t : PriceTable) : Type 0 where
  pub price : (kind : Kind) → price_of t kind ≡ price_in ms kind
  pub weight : (s : Slot) → IsSlot s → weight_of t s ≡ unwrap_or (weight_in ms s) 1
  pub top : IsSome (price_in ms RwRw)
