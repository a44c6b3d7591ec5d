use Rattle.std.proofs.Common.{◌∙◌, sym, ap}
use Rattle.fs_litmus_tokens.specs.Tokens.{views}
use Rattle.fs_app_states.proofs.Tokens.{below_here}
use Rattle.fs_app_states.proofs.listed.below.Goals as goal

pub returns-then-is_brace : goal.returns-then-is_brace
returns-then-is_brace c =
    let brace = sym c.is_brace.ensures ∙ c.if-is_brace.true in
    ap views c.from.ensures ∙ below_here c.args.tokens.now c.loop-i.i _ c.loop-i-test.true brace ∙ c.loop-i.invariant
