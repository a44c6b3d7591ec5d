-- Which operations fences order, where some are placed: FENCEs of the test, as in rule 4, and those of a placement
-- (RISC-V Unprivileged ISA 20191213, chapter "RV32I Base Integer Instruction Set", section "Memory Ordering
-- Instructions").
use Rattle.std.specs.Prelude.{ℕ, ◌+◌, Bool, false, ◌||◌, Option, None, Some, option_and_then, List, slice_get}
use Rattle.std.specs.List.{list_any}
use Rattle.fs_kinds.specs.declared.kind.Classes.{Classes}
use Rattle.fs_kinds.specs.declared.kind.Kind.{Kind}
use Rattle.fs_kinds.specs.declared.placement.Entry.{Entry}
use Rattle.fs_kinds.specs.Kind.{orders}
use Rattle.fs_kinds.specs.Placement.{kind_at}
use Rattle.fs_model.specs.Slots.{slot_at}
pub use Rattle.fs_model.specs.Rules.{instr_orders}
use Rattle.fs_model.specs.Rules as rules
use Rattle.fs_model.specs.Numbers.{between}
use Rattle.fs_model.specs.Operations.{PreExecution, operation, place, classes, trace_of}

abbrev pub kind_orders : Classes → Classes → Option Kind → Bool
kind_orders first second None = false
kind_orders first second (Some kind) = orders kind first second

-- the fence that the placement has right before step k of the run of a's hart
abbrev pub placed_before : PreExecution → List Entry → ℕ → ℕ → Option Kind
placed_before x p a k =
    option_and_then (λ hart. option_and_then (λ s. kind_at (slot_at hart s.at) p) (slice_get (trace_of x a) k)) (operation x a).hart

-- a placed fence between a and b orders them: one before an instruction after a and up to b, b itself included
abbrev pub placed_between : PreExecution → List Entry → ℕ → ℕ → Bool
placed_between x p a b = list_any (λ k. kind_orders (classes x a) (classes x b) (placed_before x p a k)) (between (place x a) (place x b + 1))

-- a fence between a and b orders them: one of the test, or a placed one
abbrev pub fence_between : PreExecution → List Entry → ℕ → ℕ → Bool
fence_between x p a b = rules.fence_between x a b || placed_between x p a b
