use Rattle.std.proofs.Common.{◌∙◌, sym, ap}
use Rattle.fs_litmus_tokens.specs.Tokens.{views}
use Rattle.fs_app_states.specs.Listed.{begins_with_bracket}
use Rattle.fs_app_states.proofs.Tokens.{behind_here}
use Rattle.fs_app_states.proofs.listed.behind.Goals as goal

pub returns-then-begins_with_bracket : goal.returns-then-begins_with_bracket
returns-then-begins_with_bracket c =
    let word = sym c.is_locations_word.ensures ∙ c.if-is_locations_word.true in
    let bracket = ap (λ xs. begins_with_bracket (views xs)) (sym c.from.ensures) ∙ sym c.begins_with_bracket.ensures ∙ c.if-begins_with_bracket.true in
    ap views c.from-then-begins_with_bracket.ensures
    ∙ behind_here c.args.tokens.now c.loop-i.i _ c.loop-i-test.true word bracket
    ∙ c.loop-i.invariant
