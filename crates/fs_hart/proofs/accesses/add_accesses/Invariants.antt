use Rattle.std.proofs.Common.{◌≡◌, ◌++◌, map, filter, take}
use Rattle.std.specs.List.{enumerate_from}
use Rattle.fs_model.specs.Operations.{access_of}
use Rattle.fs_hart.proofs.Numbering.{does_access}
use Rattle.fs_hart.proofs.accesses.add_accesses.Given as goal

abbrev pub invariant-loop-place : goal.invariant-loop-place
invariant-loop-place l = l.operations.items ≡ l.initial.operations.items ++ map (access_of l.hart) (filter does_access (take l.place (enumerate_from 0 l.steps)))
