-- Which operations placed fences order.
use Rattle.std.specs.Prelude.{ℕ, ◌+◌, Bool, ◌&&◌, List}
use Rattle.std.specs.List.{list_any}
use Rattle.fs_kinds.specs.declared.kind.Classes.{Classes}
use Rattle.fs_kinds.specs.declared.placement.Entry.{Entry}
use Rattle.fs_kinds.specs.Placement.{kind_at}
use Rattle.fs_model.specs.Numbers.{between}
use Rattle.fs_model.specs.Operations.{PreExecution, place, po, classes}
use Rattle.fs_model.specs.Fences.{kind_orders, placed_before}
use Rattle.fs_cand_witness.specs.Edges.{has_bit}
use Rattle.fs_cand_witness.specs.declared.points.Sides.{Sides}

-- a placed fence, before an instruction after a and up to b, orders a before b in program order
abbrev pub is_fenced : PreExecution → List Entry → ℕ → ℕ → Bool
is_fenced x p a b = po x a b && list_any (λ k. kind_orders (classes x a) (classes x b) (placed_before x p a k)) (between (place x a) (place x b + 1))

-- the classes of an operation before the place, and of one after it; none of others
abbrev pub before : Sides → ℕ → Classes
before side a = record { reads = has_bit side.reads_before a; writes = has_bit side.writes_before a }

abbrev pub after : Sides → ℕ → Classes
after side b = record { reads = has_bit side.reads_after b; writes = has_bit side.writes_after b }

-- the fence placed there orders a before b
abbrev pub orders_at : List Entry → ℕ → ℕ → Sides → Bool
orders_at p a b side = kind_orders (before side a) (after side b) (kind_at side.slot p)
