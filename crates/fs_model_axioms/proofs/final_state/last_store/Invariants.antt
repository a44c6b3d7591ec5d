use Rattle.std.proofs.Common.{◌≡◌, None, filter, take}
use Rattle.std.specs.List.{last_or}
use Rattle.fs_model_axioms.specs.Among.{stores_at}
use Rattle.fs_model_axioms.proofs.final_state.last_store.Given as goal

-- the last so far
abbrev pub invariant-loop-a : goal.invariant-loop-a
invariant-loop-a l = l.last ≡ last_or None (filter (stores_at l.operations l.address) (take l.a-index l.a-items))
