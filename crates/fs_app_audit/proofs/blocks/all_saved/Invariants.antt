use Rattle.std.proofs.Common.{◌≡◌, take}
use Rattle.fs_app_audit.specs.Blocks.{all_saved}
use Rattle.fs_app_audit.proofs.blocks.all_saved.Given as goal

-- of the blocks so far
abbrev pub invariant-loop-block : goal.invariant-loop-block
invariant-loop-block l = l.sum ≡ all_saved (take l.block-index l.blocks)
