use Rattle.fs_values.proofs.Made.{AreMade}
use Rattle.fs_values.proofs.values.Values.joined.Given as goal

abbrev pub invariant-loop-location : goal.invariant-loop-location
invariant-loop-location l = AreMade l.self l.stores l.location l.sets.items
