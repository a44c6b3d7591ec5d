use Rattle.std.proofs.Common.{◌≡◌, ◌++◌, map, take, flat_map}
use Rattle.std.specs.List.{enumerate_from}
use Rattle.fs_model.specs.Operations.{accesses, accesses_of, initial_store}
use Rattle.fs_model.specs.Execution.{pre_execution, initial_words}
use Rattle.fs_hart.specs.Steps.{steps_in}
use Rattle.fs_hart.proofs.accesses.operations.Given as goal

abbrev pub invariant-loop-hart : goal.invariant-loop-hart
invariant-loop-hart l = l.operations.items ≡ flat_map accesses_of (take l.hart (enumerate_from 0 (steps_in l.traces)))

abbrev pub invariant-loop-location : goal.invariant-loop-location
invariant-loop-location l = l.operations.items ≡ accesses (pre_execution l.test (steps_in l.traces)) ++ map initial_store (take l.location (enumerate_from 0 (initial_words l.test)))
