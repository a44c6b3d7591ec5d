use Rattle.std.proofs.Common.{◌≡◌, ◌+◌, drop}
use Rattle.std.specs.List.{prefix_len}
use Rattle.fs_litmus.specs.Title.{is_within_line}
use Rattle.fs_app_error_messages.proofs.message.line_len.Given as goal

abbrev pub invariant-loop-i : goal.invariant-loop-i
invariant-loop-i l = prefix_len is_within_line (drop l.i l.bytes) + l.i ≡ prefix_len is_within_line l.bytes
