use Rattle.std.proofs.Common.{◌≡◌, ◌≤◌, length}
use Rattle.fs_litmus.specs.Title.{after_line}
use Rattle.fs_litmus.proofs.title.after_line.Given as goal

abbrev pub invariant-loop-first : goal.invariant-loop-first
invariant-loop-first l = record {
  within : length l.rest ≤ length l.fn.bytes;
  same : after_line l.rest ≡ after_line l.fn.bytes;
}

abbrev pub decreases-loop-first : goal.decreases-loop-first
decreases-loop-first l = length l.rest
