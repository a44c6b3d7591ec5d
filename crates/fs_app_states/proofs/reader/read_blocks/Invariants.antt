use Rattle.std.proofs.Common.{◌≡◌, ◌≤◌, ◌-◌, length, map}
use Rattle.fs_app_states.specs.Blocks.{read_block}
use Rattle.fs_app_states.specs.inner.Reading.{IsReadBefore}
use Rattle.fs_app_states.proofs.reader.read_blocks.Given as goal

-- what is read from the line on stands behind the blocks so far
abbrev pub invariant-loop-index : goal.invariant-loop-index
invariant-loop-index l = IsReadBefore (map (λ line. line.now) l.lines) l.index (map read_block l.blocks.items)

abbrev pub decreases-loop-index : goal.decreases-loop-index
decreases-loop-index l = length l.lines - l.index
