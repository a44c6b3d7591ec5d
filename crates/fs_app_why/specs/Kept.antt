-- Whether an order keeps what fences order.
use Rattle.std.specs.Prelude.{ℕ, Bool, ◌&&◌, ◌||◌, not, Some, List, length}
use Rattle.std.specs.List.{list_all}
use Rattle.fs_kinds.specs.declared.kind.Kind.{Kind}
use Rattle.fs_kinds.specs.declared.placement.Entry.{Entry}
use Rattle.fs_kinds.specs.declared.slot.Slot.{Slot}
use Rattle.fs_kinds.specs.Placement.{with_kind}
use Rattle.fs_model.specs.Fences.{fence_between}
use Rattle.fs_model.specs.Numbers.{numbers_below, stands_before}
use Rattle.fs_model.specs.Operations.{PreExecution, operations, po}
use Rattle.fs_model.specs.Source.{gmo}

-- where a fence orders a before b, so does the order
abbrev pub keeps_fence : PreExecution → List Entry → (order : List ℕ) → ℕ → ℕ → Bool
keeps_fence x p order a b = not (po x a b && fence_between x p a b) || stands_before (gmo x order) a b

abbrev pub keeps_fences : PreExecution → List Entry → (order : List ℕ) → Bool
keeps_fences x p order =
    list_all (λ a. list_all (keeps_fence x p order a) (numbers_below (length (operations x))))
    (numbers_below (length (operations x)))

-- with a fence of this kind in the slot
abbrev pub keeps_kind : PreExecution → List Entry → Slot → (order : List ℕ) → Kind → Bool
keeps_kind x p slot order kind = keeps_fences x (with_kind slot (Some kind) p) order
