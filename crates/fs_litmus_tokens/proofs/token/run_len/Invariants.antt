use Rattle.std.proofs.Common.{◌≡◌, ◌+◌, drop}
use Rattle.std.specs.List.{prefix_len}
use Rattle.fs_litmus_tokens.specs.Bytes.{is_letter}
use Rattle.fs_litmus_tokens.proofs.token.run_len.Given as goal

abbrev pub invariant-loop-i : goal.invariant-loop-i
invariant-loop-i l = prefix_len is_letter (drop l.i l.b) + l.i ≡ prefix_len is_letter l.b
