use Rattle.std.proofs.Common.{◌≡◌, map, take}
use Rattle.fs_cand.specs.inner.NamedOrder.{name_in}
use Rattle.fs_check.proofs.names.names.Given as goal

-- the names of the operations so far
abbrev pub invariant-loop-operation : goal.invariant-loop-operation
invariant-loop-operation l = l.names.items ≡ map (name_in (map (λ trace. trace.steps) l.traces)) (take l.operation-index l.operations)
