-- The operations before a step of a run, and those from it on.
use Rattle.std.specs.Prelude.{ℕ, Bool, ◌&&◌, not, nat_lt, Option, Some, is_some, option_and_then, List, slice_get}
use Rattle.fs_kinds.specs.declared.kind.Classes.{Classes}
use Rattle.fs_kinds.specs.declared.kind.Kind.{Kind}
use Rattle.fs_kinds.specs.declared.placement.Entry.{Entry}
use Rattle.fs_kinds.specs.Placement.{kind_at}
use Rattle.fs_model.specs.Slots.{slot_at}
use Rattle.fs_model.specs.declared.operation.Operation.{Operation}
use Rattle.fs_model.specs.Numbers.{is_same}
use Rattle.fs_model.specs.Operations.{PreExecution, operation, steps_of}
use Rattle.fs_model.specs.Fences.{kind_orders}
use Rattle.fs_cand_witness.specs.declared.points.Half.{Half}
use Rattle.fs_cand_witness.specs.declared.points.Half.TheVariants.{Before, After}
use Rattle.fs_cand_witness.specs.declared.points.Class.{Class}
use Rattle.fs_cand_witness.specs.declared.points.Class.TheVariants.{Reads, Writes}

-- it is of the hart, and before step k or not
abbrev pub is_on : Half → ℕ → ℕ → Operation → Bool
is_on Before hart k o = is_same o.hart (Some hart) && nat_lt o.place k
is_on After hart k o = is_same o.hart (Some hart) && not (nat_lt o.place k)

abbrev pub is_of : Class → Operation → Bool
is_of Reads o = is_some o.loaded
is_of Writes o = is_some o.stored

-- the classes of an operation on that side of step k, and none of another
abbrev pub classes_on : Half → ℕ → ℕ → Operation → Classes
classes_on half hart k o = record { reads = is_on half hart k o && is_of Reads o; writes = is_on half hart k o && is_of Writes o }

-- the fence placed before step k of the hart
abbrev pub kind_before : PreExecution → List Entry → ℕ → ℕ → Option Kind
kind_before x p hart k = option_and_then (λ s. kind_at (slot_at hart s.at) p) (slice_get (steps_of x.traces hart) k)

-- it orders a before b
abbrev pub orders_before_step : PreExecution → List Entry → ℕ → ℕ → ℕ → ℕ → Bool
orders_before_step x p hart a b k = kind_orders (classes_on Before hart k (operation x a)) (classes_on After hart k (operation x b)) (kind_before x p hart k)
