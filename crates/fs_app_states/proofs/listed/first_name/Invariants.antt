use Rattle.std.proofs.Common.{◌≡◌, drop}
use Rattle.fs_litmus_tokens.specs.Tokens.{views}
use Rattle.fs_app_states.specs.Listed.{first_name}
use Rattle.fs_app_states.proofs.listed.first_name.Given as goal

abbrev pub invariant-loop-i : goal.invariant-loop-i
invariant-loop-i l = first_name l.hart l.reg (views (drop l.i l.tokens)) ≡ first_name l.hart l.reg (views l.tokens)
