use Rattle.std.proofs.Common.{◌≡◌, ◌++◌, drop, string_bytes, codes}
use Rattle.fs_litmus_tokens.specs.Tokens.{views}
use Rattle.fs_app_error_messages.specs.Apart.{in_lines}
use Rattle.fs_app_error_messages.proofs.apart.apart.Given as goal

abbrev pub invariant-loop-token : goal.invariant-loop-token
invariant-loop-token l = string_bytes l.text ++ in_lines (views (drop l.token-index l.tokens)) ≡ codes "RISCV T" ++ in_lines (views l.tokens)
