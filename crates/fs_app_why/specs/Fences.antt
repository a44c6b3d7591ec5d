-- Which fences order two operations of a hart in each of some runs.
use Rattle.std.specs.Prelude.{ℕ, ◌+◌, ◌-◌, ◌==◌, nat_le, nat_lt, Bool, true, false, ◌&&◌, not, Option, None, Some, is_some, option_map, option_and_then, List, [], ◌∷◌, ◌++◌, slice_get, if◌then◌else◌}
use Rattle.std.specs.List.{flat_map, list_all, range_with_len}
use Rattle.fs_kinds.specs.declared.kind.Classes.{Classes}
use Rattle.fs_kinds.specs.declared.placement.Entry.{Entry}
use Rattle.fs_kinds.specs.declared.reason.OperationName.{OperationName as Name}
use Rattle.fs_kinds.specs.Kind.{orders}
use Rattle.fs_kinds.specs.Placement.{kind_at}
use Rattle.fs_instr.specs.declared.instr.Instr.{Instr}
use Rattle.fs_instr.specs.declared.instr.Instr.TheVariants.{Fence as Fences, FenceTso}
use Rattle.fs_model.specs.declared.test.Test.{Test}
use Rattle.fs_model.specs.declared.step.Step.{Step}
use Rattle.fs_model.specs.Execution.{code_of}
use Rattle.fs_model.specs.Fences.{instr_orders}
use Rattle.fs_model.specs.Slots.{slot_at}
use Rattle.fs_cert_evidence.specs.Regions.{loaded_at, stored_at}
use Rattle.fs_cert_evidence.specs.Splits.{chosen_at}
use Rattle.fs_app_why.specs.declared.fences.Fence.{Fence}
use Rattle.fs_app_why.specs.declared.fences.Fence.TheVariants.{Placed, Written}

abbrev pub classes_at : List Step → ℕ → Classes
classes_at run at = record { reads = is_some (loaded_at run at); writes = is_some (stored_at run at) }

abbrev pub executes : List Step → ℕ → Bool
executes run at = not (chosen_at at run == 0)

abbrev pub written_orders : Classes → Classes → Option Instr → Bool
written_orders first second None = false
written_orders first second (Some instr) = instr_orders first second instr

abbrev pub fence_orders : Test → Fence → Classes → Classes → Bool
fence_orders t (Placed slot kind) first second = orders kind first second
fence_orders t (Written hart at) first second = written_orders first second (slice_get (code_of t hart) at)

-- the run executes it after the first instruction, and before the second accesses memory
abbrev pub stands_between : Fence → (first second : ℕ) → List Step → Bool
stands_between (Placed slot kind) first second run =
    nat_lt first slot.at && (nat_le slot.at second && executes run slot.at)
stands_between (Written hart at) first second run = nat_lt first at && (nat_lt at second && executes run at)

abbrev pub orders_in : Test → Fence → (first second : ℕ) → List Step → Bool
orders_in t fence first second run =
    stands_between fence first second run && fence_orders t fence (classes_at run first) (classes_at run second)

abbrev pub orders_in_all : Test → Fence → (first second : ℕ) → List (List Step) → Bool
orders_in_all t fence first second runs = list_all (orders_in t fence first second) runs

abbrev pub placed_at : List Entry → (hart at : ℕ) → Option Fence
placed_at p hart at = option_map (Placed (slot_at hart at)) (kind_at (slot_at hart at) p)

abbrev pub is_fence : Instr → Bool
is_fence (Fences before after) = true
is_fence FenceTso = true
is_fence _ = false

abbrev pub written_as : (hart at : ℕ) → Instr → Option Fence
written_as hart at instr = if is_fence instr then Some (Written hart at) else None

abbrev pub written_at : Test → (hart at : ℕ) → Option Fence
written_at t hart at = option_and_then (written_as hart at) (slice_get (code_of t hart) at)

-- the fence, if there is one and it orders the two in each of the runs
abbrev pub if_orders : Test → (first second : ℕ) → List (List Step) → Option Fence → List Fence
if_orders t first second runs None = []
if_orders t first second runs (Some fence) = if orders_in_all t fence first second runs then fence ∷ [] else []

-- those before an instruction, and that it is
abbrev pub ordering_at : Test → List Entry → List (List Step) → Name → Name → (at : ℕ) → List Fence
ordering_at t p runs a b at =
    if_orders t a.at b.at runs (placed_at p a.hart at) ++ if_orders t a.at b.at runs (written_at t a.hart at)

-- those of the first operation's hart behind it and up to the second, in the order of the code
abbrev pub ordering : Test → List Entry → List (List Step) → Name → Name → List Fence
ordering t p runs a b = flat_map (ordering_at t p runs a b) (range_with_len (a.at + 1) (b.at - a.at))
