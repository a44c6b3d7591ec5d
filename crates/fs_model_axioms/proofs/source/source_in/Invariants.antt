use Rattle.std.proofs.Common.{◌≡◌, None, filter, take}
use Rattle.std.specs.List.{last_or}
use Rattle.fs_model_axioms.specs.Among.{may_return}
use Rattle.fs_model_axioms.proofs.source.source_in.Given as goal

-- the latest so far
abbrev pub invariant-loop-s : goal.invariant-loop-s
invariant-loop-s l = l.source ≡ last_or None (filter (may_return l.operations l.order l.load) (take l.s-index l.s-items))
