-- What fences an execution bears: its width at a slot is the set of pairs that its order keeps there. Fences of the
-- test itself count among what the order keeps; this does no harm, since a placed fence adds nothing to them.
use Rattle.std.specs.Prelude.{◌≡◌, ◌↔◌, ℕ, Bool, true, ◌&&◌, ◌||◌, not, Some, List, [], ◌∷◌, length}
use Rattle.std.specs.List.{list_all}
use Rattle.fs_kinds.specs.declared.kind.Kind.{Kind}
use Rattle.fs_kinds.specs.declared.kind.Kind.TheVariants.{RR, RW, WR, WW}
use Rattle.fs_kinds.specs.declared.placement.Entry.{Entry}
use Rattle.fs_kinds.specs.declared.slot.Slot.{Slot}
use Rattle.fs_kinds.specs.Kind.{Pair, ReadRead, ReadWrite, WriteRead, WriteWrite, is_subset}
use Rattle.fs_kinds.specs.Placement.{pairs_kept, slots_of}
use Rattle.fs_kinds.specs.Slot.{is_rising}
use Rattle.fs_model.specs.declared.test.Test.{Test}
use Rattle.fs_model.specs.Numbers.{numbers_below, stands_before}
use Rattle.fs_model.specs.Operations.{PreExecution, operations, po}
use Rattle.fs_model.specs.Source.{gmo}
use Rattle.fs_model.specs.Fences.{fence_between}
use Rattle.fs_model.specs.Execution.{Execution, IsExecution, pre_execution}

-- a set of pairs for each slot
abbrev pub Width : Type 0
Width = Slot → Pair → Bool

-- the kind that is this pair alone
abbrev pub kind_of_pair : Pair → Kind
kind_of_pair ReadRead = RR
kind_of_pair ReadWrite = RW
kind_of_pair WriteRead = WR
kind_of_pair WriteWrite = WW

-- a fence of this pair alone at this slot, and no other
abbrev pub single : Slot → Pair → List Entry
single slot pair = record { slot = slot; kind = Some (kind_of_pair pair) } ∷ []

-- where such a fence orders a before b, so does the order
abbrev pub bears : PreExecution → List ℕ → Slot → Pair → ℕ → ℕ → Bool
bears x order slot pair a b = not (po x a b && fence_between x (single slot pair) a b) || stands_before (gmo x order) a b

-- and so it is for all operations
abbrev pub keeps_pair : PreExecution → List ℕ → Slot → Pair → Bool
keeps_pair x order slot pair = list_all (λ a. list_all (bears x order slot pair a) numbers) numbers
  where
    numbers : List ℕ
    numbers = numbers_below (length (operations x))

-- the width of an execution at a slot
abbrev pub width : Test → Execution → Width
width t e = keeps_pair (pre_execution t e.traces) e.order

-- the placement is within the width: each of its fences orders only pairs that are kept at its slot
abbrev pub is_within_width : Test → Execution → List Entry → Bool
is_within_width t e = list_all (λ entry. is_subset (pairs_kept entry.kind) (width t e entry.slot))

-- the width is exact: an execution without placed fences is one with those of p exactly where p is within it
abbrev pub IsExactWidth : Test → Execution → Type 0
IsExactWidth t e = (p : List Entry) → is_rising (slots_of p) ≡ true → (is_within_width t e p ≡ true) ↔ IsExecution t p e
