use Rattle.std.proofs.Common.{◌≡◌, flat_map, take, string_bytes}
use Rattle.fs_app_audit.specs.Blocks.{block_text}
use Rattle.fs_app_audit.proofs.blocks.written_blocks.Given as goal

-- the blocks so far
abbrev pub invariant-loop-block : goal.invariant-loop-block
invariant-loop-block l = string_bytes l.text ≡ flat_map block_text (take l.block-index l.blocks)
