use Rattle.std.proofs.Common.{◌≡◌, drop}
use Rattle.fs_board.specs.inner.Fills.{put_all}
use Rattle.fs_board.proofs.part.Part.filled_with.Given as goal

abbrev pub invariant-loop-decision : goal.invariant-loop-decision
invariant-loop-decision l = put_all (drop l.decision-index l.self) l.placement ≡ put_all l.self l.fn.uniform
