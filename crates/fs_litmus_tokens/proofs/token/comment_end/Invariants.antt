use Rattle.std.proofs.Common.{◌≡◌, ◌+◌, ◌≤◌, length, false}
use Rattle.fs_litmus_tokens.specs.Bytes.{comment_from}
use Rattle.fs_litmus_tokens.proofs.token.comment_end.Given as goal

abbrev pub invariant-loop-first : goal.invariant-loop-first
invariant-loop-first l = record {
  room : l.line + length l.rest ≤ l.fn.line + length l.fn.bytes;
  within : l.inner + length l.rest ≤ length l.fn.bytes;
  same : comment_from l.inner l.is_second l.rest l.line ≡ comment_from 0 false l.fn.bytes l.fn.line;
}

abbrev pub decreases-loop-first : goal.decreases-loop-first
decreases-loop-first l = length l.rest
