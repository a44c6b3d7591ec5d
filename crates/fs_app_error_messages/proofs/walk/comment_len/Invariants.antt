use Rattle.std.proofs.Common.{◌≡◌, ◌≤◌, drop, false}
use Rattle.fs_app_error_messages.proofs.Walking.{after}
use Rattle.fs_app_error_messages.proofs.walk.comment_len.Given as goal

abbrev pub invariant-loop-i : goal.invariant-loop-i
invariant-loop-i l = record {
  few : l.inner ≤ l.i;
  same : after l.inner l.is_second (drop l.i l.bytes) ≡ after 0 false l.bytes;
}
