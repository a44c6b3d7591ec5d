use Rattle.std.proofs.Common.{◌≡◌, drop}
use Rattle.fs_litmus_tokens.specs.Tokens.{views}
use Rattle.fs_app_states.specs.Listed.{behind}
use Rattle.fs_app_states.proofs.listed.behind.Given as goal

abbrev pub invariant-loop-i : goal.invariant-loop-i
invariant-loop-i l = behind (views (drop l.i l.tokens)) ≡ behind (views l.tokens)
