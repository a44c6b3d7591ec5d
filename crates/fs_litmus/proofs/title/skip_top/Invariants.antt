use Rattle.std.proofs.Common.{◌≡◌, ◌+◌, ◌≤◌, length}
use Rattle.fs_litmus.specs.Title.{top_from, top_of}
use Rattle.fs_litmus.proofs.title.skip_top.Given as goal

abbrev pub invariant-loop-first : goal.invariant-loop-first
invariant-loop-first l = record {
  same : top_from l.depth l.is_second l.rest l.line (l.text, l.at) ≡ top_of l.fn.bytes;
  within : l.depth + length l.rest ≤ length l.fn.bytes;
  lines : l.line + length l.rest ≤ length l.fn.bytes + 1;
  room : l.at + length l.text ≤ length l.fn.bytes + 1;
}

abbrev pub decreases-loop-first : goal.decreases-loop-first
decreases-loop-first l = length l.rest
