-- Weaker and stronger fences, and what a test allows with them.
use Rattle.std.specs.Prelude.{◌≡◌, true, List}
use Rattle.fs_kinds.specs.declared.slot.Slot.{Slot}
use Rattle.fs_kinds.specs.declared.placement.Entry.{Entry}
use Rattle.fs_kinds.specs.Kind.{Pair}
use Rattle.fs_kinds.specs.Placement.{kind_at, pairs_kept}
use Rattle.fs_kinds.specs.PriceTable.{PriceTable}
use Rattle.fs_model.specs.declared.test.Test.{Test}
use Rattle.fs_model.specs.Execution.{Execution, IsExecution}
use Rattle.fs_model.specs.Allows.{Shows, Allows, IsPlacement, IsCheapest, RefutesAll}

-- At each slot the fence of p keeps only pairs of operations in order that the fence of q keeps there too. A slot that
-- is not in a list has no fence, so the two need not have the same slots.
abbrev pub KeepsNoMore : List Entry → List Entry → Type 0
KeepsNoMore p q = (s : Slot) (pair : Pair) → pairs_kept (kind_at s p) pair ≡ true → pairs_kept (kind_at s q) pair ≡ true

-- the fences of p and q keep the same pairs at each slot
abbrev pub KeepsTheSame : List Entry → List Entry → Type 0
KeepsTheSame p q = (s : Slot) (pair : Pair) → pairs_kept (kind_at s p) pair ≡ pairs_kept (kind_at s q) pair

-- Each execution with the fences q is one with the fences p: the same traces in the same order. So each that shows the
-- outcome with q shows it with p, and an outcome that is allowed with q is allowed with p.
pub record AllowsNoLess (t : Test) (p q : List Entry) : Type 0 where
  pub executions : (e : Execution) → IsExecution t q e → IsExecution t p e
  pub shows : (e : Execution) → Shows t q e → Shows t p e
  pub allows : Allows t q → Allows t p

-- ---- no fences forbid the outcome

-- one execution shows it with rw,rw in every slot, and so refutes all placements
abbrev pub AllAreRefuted : Test → Type 0
AllAreRefuted t = (e : Execution) × RefutesAll t e

-- it is allowed with each placement of these prices
abbrev pub IsAlwaysAllowed : Test → PriceTable → Type 0
IsAlwaysAllowed t prices = (p : List Entry) → IsPlacement t prices p → Allows t p

-- no placement is the answer, which is the cheapest that forbids it
abbrev pub HasNoAnswer : Test → PriceTable → Type 0
HasNoAnswer t prices = (p : List Entry) → IsCheapest t prices p → ⊥
