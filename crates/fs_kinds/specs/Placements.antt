-- 7. Placements of fences, and what they cost. A slot is a place for a fence, right before an instruction of a hart; of
-- which program, file 8 says.
use Rattle.std.specs.Prelude.{ℕ, ◌+◌, ◌*◌, ◌==◌, nat_lt, List, [], ◌∷◌, map, Bool, true, false, ◌&&◌, ◌||◌, Option, None, Some, is_some, unwrap_or, option_and_then, slice_index_or}
use Rattle.std.specs.Map.{lookup}
use Rattle.std.specs.List.{find, list_all, sum_by}
use Rattle.fs_kinds.specs.declared.kind.Kind.{Kind}
use Rattle.fs_kinds.specs.declared.kind.Kind.TheVariants.{RR, RW, RRw, WR, WW, WRw, RwR, RwW, RwRw, Tso}
use Rattle.fs_kinds.specs.declared.slot.Slot.{Slot}
use Rattle.fs_kinds.specs.declared.placement.Entry.{Entry}

-- ---- placements: a list of slots, at each a kind of fence or none

abbrev pub slots_of : List Entry → List Slot
slots_of = map (λ e. e.slot)

abbrev pub is_same_slot : Slot → Slot → Bool
is_same_slot s t = (s.hart == t.hart) && (s.at == t.at)

-- the kind at the slot, where it has one
abbrev pub kind_at : Slot → List Entry → Option Kind
kind_at s p = option_and_then (λ e. e.kind) (find (λ e. is_same_slot e.slot s) p)

-- the kind's place in the table of kinds, from 0 on
abbrev pub table_index : Kind → ℕ
table_index RR = 0
table_index RW = 1
table_index RRw = 2
table_index WR = 3
table_index WW = 4
table_index WRw = 5
table_index RwR = 6
table_index RwW = 7
table_index RwRw = 8
table_index Tso = 9

-- ---- what they cost

-- the kinds' prices in table order, and the slots that were given a weight
pub record PriceTable : Type 0 where
  pub prices : List (Option ℕ)
  pub weights : List (Slot × ℕ)

-- what a fence of the kind costs, where it is offered
abbrev pub price_of : PriceTable → Kind → Option ℕ
price_of t kind = slice_index_or t.prices (table_index kind) None

-- by what the prices at the slot are multiplied
abbrev pub weight_of : PriceTable → Slot → ℕ
weight_of t s = unwrap_or (lookup (is_same_slot s) t.weights) 1

-- no fence is always offered, a kind where it has a price
abbrev pub is_offered : PriceTable → Option Kind → Bool
is_offered t None = true
is_offered t (Some kind) = is_some (price_of t kind)

abbrev pub are_offered : PriceTable → List Entry → Bool
are_offered t = list_all (λ e. is_offered t e.kind)

abbrev pub kind_cost : PriceTable → Option Kind → ℕ
kind_cost t None = 0
kind_cost t (Some kind) = unwrap_or (price_of t kind) 0

abbrev pub entry_cost : PriceTable → Entry → ℕ
entry_cost t e = kind_cost t e.kind * weight_of t e.slot

-- the sum over the slots of price times weight
abbrev pub cost : PriceTable → List Entry → ℕ
cost t = sum_by (entry_cost t)

-- ---- which is better

-- none first, then the table order
abbrev pub rank : Option Kind → ℕ
rank None = 0
rank (Some kind) = 1 + table_index kind

-- the first slot at which two placements differ decides which comes first
abbrev pub precedes : List Entry → List Entry → Bool
precedes (e ∷ p) (f ∷ q) = nat_lt (rank e.kind) (rank f.kind) || (rank e.kind == rank f.kind) && precedes p q
precedes [] q = false
precedes (e ∷ p) [] = false

-- p costs less than q, or as much and is earlier
abbrev pub is_better : PriceTable → List Entry → List Entry → Bool
is_better prices p q = nat_lt (cost prices p) (cost prices q) || (cost prices p == cost prices q) && precedes p q
