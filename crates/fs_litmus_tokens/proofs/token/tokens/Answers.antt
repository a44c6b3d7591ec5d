use Rattle.std.proofs.Common.{[], sym, subst, refl, arith}
use Rattle.fs_litmus_tokens.specs.Tokens.{none, unclosed, AreTokens, view}
use Rattle.std.proofs.Common.{map, true, false}
use Rattle.fs_litmus_tokens.proofs.Reading.{skips, takes, ends, no_bytes, tokens_only}
use Rattle.fs_litmus_tokens.proofs.token.tokens.Goals as goal

pub loop-first-preserved-in-Skip : goal.loop-first-preserved-in-Skip
loop-first-preserved-in-Skip c = record {
  room = omega (arith, c.in-Skip.ensures.shrinks);
  rest = λ ts closed h. c.loop-first.invariant.rest ts closed (skips [] _ _ _ _ _ _ ts closed c.in-Some.ensures.cases.0 c.in-Skip.ensures.value h);
}

pub loop-first-preserved : goal.loop-first-preserved
loop-first-preserved c = record {
  room = omega (arith, c.in-Take.ensures.shrinks);
  rest = λ ts closed h. takes c.args.line _ _ _ _ _ c.loop-first.at c.loop-first.out.items _ (record { kind = c.in-Take.kind; line = c.loop-first.at }) ts closed c.loop-first.invariant.rest c.in-Some.ensures.cases.0 c.in-Take.ensures.value refl c.in_ok-push-in-Take.ensures.items h;
}

pub returns-in-Unclosed : goal.returns-in-Unclosed
returns-in-Unclosed c =
    let h = ends c.args.line c.args.text.now _ c.loop-first.at (map view c.loop-first.out.items) false c.loop-first.invariant.rest (subst (λ l. AreTokens l c.loop-first.at [] false) (sym c.in-Some.ensures.cases.0) (unclosed (sym c.in-Unclosed.ensures.value))) in
    record { are = h; only = λ ts closed k. tokens_only h k }

pub returns : goal.returns
returns c =
    let h = ends c.args.line c.args.text.now _ c.loop-first.at (map view c.loop-first.out.items) true c.loop-first.invariant.rest (subst (λ l. AreTokens l c.loop-first.at [] true) (no_bytes c.loop-first.rest.now c.in_default.ensures.cases) none) in
    record { are = h; only = λ ts closed k. tokens_only h k }
