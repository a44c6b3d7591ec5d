use Rattle.std.proofs.Common.{◌≡◌, take, flat_map}
use Rattle.std.specs.List.{enumerate_from}
use Rattle.fs_model.specs.Slots.{slots_in}
use Rattle.fs_model.proofs.accesses.slots.Given as goal

abbrev pub invariant-loop-hart : goal.invariant-loop-hart
invariant-loop-hart l = l.found.items ≡ flat_map (λ numbered. slots_in numbered.0 numbered.1) (take l.hart (enumerate_from 0 l.test.codes))
