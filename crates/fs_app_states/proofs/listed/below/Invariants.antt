use Rattle.std.proofs.Common.{◌≡◌, drop}
use Rattle.fs_litmus_tokens.specs.Tokens.{views}
use Rattle.fs_app_states.specs.Listed.{below}
use Rattle.fs_app_states.proofs.listed.below.Given as goal

abbrev pub invariant-loop-i : goal.invariant-loop-i
invariant-loop-i l = below (views (drop l.i l.tokens)) ≡ below (views l.tokens)
