use Rattle.std.proofs.Common.{◌≡◌, map, filter}
use Rattle.std.specs.List.{range_with_len}
use Rattle.fs_model.specs.Test.{address_of}
use Rattle.fs_model_axioms.specs.Among.{stores_at}
use Rattle.fs_judge.proofs.executed.store_order.Given as goal

-- the stores to each location so far
abbrev pub invariant-loop-location : goal.invariant-loop-location
invariant-loop-location l =
    l.all.items ≡ map (λ location. filter (stores_at l.operations (address_of location)) l.order) (range_with_len 0 l.location)
