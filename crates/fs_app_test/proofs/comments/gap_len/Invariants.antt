use Rattle.std.proofs.Common.{◌≡◌, ◌+◌, drop}
use Rattle.std.specs.List.{prefix_len}
use Rattle.fs_app_test.specs.Comments.{is_gap}
use Rattle.fs_app_test.proofs.comments.gap_len.Given as goal

abbrev pub invariant-loop-i : goal.invariant-loop-i
invariant-loop-i l = prefix_len is_gap (drop l.i l.bytes) + l.i ≡ prefix_len is_gap l.bytes
