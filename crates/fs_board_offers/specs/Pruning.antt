-- When nothing under a partial placement is better than the best placement so far: the test by which the search prunes,
-- and by which a certificate's leaf is judged. It is the lower bound of branch and bound. A placement that forbids the
-- outcome must break each execution that shows it under the floor; where no slot serves to break two of them, it pays
-- for each.
use Rattle.std.specs.Prelude.{ℕ, ◌+◌, ◌==◌, if◌then◌else◌, nat_lt, min, Bool, true, false, ◌&&◌, ◌||◌, not, Option, None, Some, option_map, option_and_then, List, [], ◌∷◌, map, filter}
use Rattle.std.specs.List.{list_any, flat_map}
use Rattle.fs_kinds.specs.declared.kind.Kind.{Kind}
use Rattle.fs_kinds.specs.declared.placement.Entry.{Entry}
use Rattle.fs_kinds.specs.declared.slot.Slot.{Slot}
use Rattle.fs_kinds.specs.Kind.{is_subset}
use Rattle.fs_kinds.specs.Placement.{pairs_kept}
use Rattle.fs_cert_evidence.specs.Widths.{Width}
use Rattle.fs_board_offers.specs.Offers.{Offers, entry_cost, cost, precedes, options, offer_at}
use Rattle.fs_board_offers.specs.Parts.{Part, Decision, floor, earliest}

-- the fence breaks an execution of this width: it orders a pair that the width doesn't keep at its slot
abbrev pub breaks : Width → Entry → Bool
breaks width entry = not (is_subset (pairs_kept entry.kind) (width entry.slot))

-- the fences that may still be put at a slot and break the execution; none where it is decided
abbrev pub breaking_ways : Offers → Width → Slot → Option (Option Kind) → List Entry
breaking_ways offers width slot None = filter (breaks width) (map (λ kind. record { slot = slot; kind = kind }) (options (offer_at offers slot)))
breaking_ways offers width slot (Some decided) = []

abbrev pub breaking_at : Offers → Width → Decision → List Entry
breaking_at offers width d = breaking_ways offers width d.slot d.decided

abbrev pub is_empty : List Entry → Bool
is_empty [] = true
is_empty (entry ∷ entries) = false

-- the slot is breakable: a fence that may still be put there breaks the execution
abbrev pub is_breakable : Offers → Width → Decision → Bool
is_breakable offers width d = not (is_empty (breaking_at offers width d))

abbrev pub lesser : ℕ → Option ℕ → ℕ
lesser n None = n
lesser n (Some m) = min n m

abbrev pub least : List ℕ → Option ℕ
least [] = None
least (n ∷ ns) = Some (lesser n (least ns))

-- what the cheapest of these fences costs, at any slot of the part; nothing where no slot is breakable
abbrev pub least_break : Offers → Part → Width → Option ℕ
least_break offers part width = least (map (entry_cost offers) (flat_map (breaking_at offers width) part))

-- some slot is breakable for both
abbrev pub share_a_slot : Offers → Part → Width → Width → Bool
share_a_slot offers part v w = list_any (λ d. is_breakable offers v d && is_breakable offers w d) part

-- no two of them share a breakable slot
abbrev pub are_apart : Offers → Part → List Width → Bool
are_apart offers part [] = true
are_apart offers part (w ∷ ws) = not (list_any (share_a_slot offers part w) ws) && are_apart offers part ws

abbrev pub sum_of : Option ℕ → Option ℕ → Option ℕ
sum_of m n = option_and_then (λ k. option_map (λ l. k + l) n) m

-- the cost of the floor and of breaking each of them; nothing where one of them can't be broken
abbrev pub lower_bound : Offers → Part → List Width → Option ℕ
lower_bound offers part [] = Some (cost offers (floor part))
lower_bound offers part (w ∷ ws) = sum_of (least_break offers part w) (lower_bound offers part ws)

-- of the completions that may cost so much none is before this one
abbrev pub first_at : Offers → Part → ℕ → List Entry
first_at offers part n = if cost offers (floor part) == n then floor part else earliest offers part

-- What costs so much, or can't be had at all, is no better than the bound; at equal cost the bound wins where the first
-- completion that may cost so much isn't before it.
abbrev pub is_no_better : Offers → (bound : Option (List Entry)) → Part → Option ℕ → Bool
is_no_better offers bound part None = true
is_no_better offers None part (Some n) = false
is_no_better offers (Some p) part (Some n) = nat_lt (cost offers p) n || (cost offers p == n) && not (precedes offers (first_at offers part n) p)

-- Executions of these widths, which show the outcome under the part's floor, bound what is under the part: nothing that
-- forbids the outcome there is better than the bound. With no execution, the part is pruned by cost alone.
abbrev pub is_pruned : Offers → (bound : Option (List Entry)) → Part → List Width → Bool
is_pruned offers bound part widths = are_apart offers part widths && is_no_better offers bound part (lower_bound offers part widths)
