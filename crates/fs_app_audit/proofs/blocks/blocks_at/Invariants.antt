use Rattle.fs_app_audit.specs.Blocks.{AreBlocks}
use Rattle.fs_app_audit.proofs.blocks.blocks_at.Given as goal

-- those so far
abbrev pub invariant-loop-one : goal.invariant-loop-one
invariant-loop-one l = AreBlocks l.is_anew l.prices l.blocks.items
