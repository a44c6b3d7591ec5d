use Rattle.std.proofs.Common.{[], ◌∷◌, ◌++◌, sym, subst, refl, arith, true, false}
use Rattle.fs_litmus_tokens.specs.Tokens.{none, unclosed, AreTokens, view}
use Rattle.fs_litmus_tokens.specs.declared.token.Token.{Token}
use Rattle.fs_litmus_tokens.proofs.Reading.{skips, ends, no_bytes, tokens_only}
use Rattle.fs_litmus_tokens.proofs.FewLemmas.{next_first, next_plain, sides, more_takes}
use Rattle.fs_litmus_tokens.proofs.few.first_tokens.Goals as goal

pub loop-first-preserved-in-Skip : goal.loop-first-preserved-in-Skip
loop-first-preserved-in-Skip c = record {
  room = omega (arith, c.in-Skip.ensures.shrinks);
  counted = omega (arith, c.in-Skip.ensures.shrinks);
  seen = c.loop-first.invariant.seen;
  first = c.loop-first.invariant.first;
  plain = c.loop-first.invariant.plain;
  more = λ ts closed h. c.loop-first.invariant.more ts closed (skips [] _ _ _ _ _ _ ts closed c.in-Some.ensures.cases.0 c.in-Skip.ensures.value h);
}

pub loop-first-preserved : goal.loop-first-preserved
loop-first-preserved c =
    let x : Token = record { kind = c.in-Take.kind; line = c.loop-first.line } in record {
      room = omega (arith, c.in-Take.ensures.shrinks);
      counted = omega (arith, c.in-Take.ensures.shrinks);
      seen = c.loop-first.invariant.seen ++ view x ∷ [];
      first = next_first _ _ _ x _ (sides c.loop-first.len) c.push.ensures c.loop-first.invariant.first;
      plain = next_plain _ _ c.loop-first.invariant.seen (view x) c.loop-first.invariant.plain c.is_plain-plain.ensures;
      more = λ ts closed h. more_takes _ _ _ _ _ c.loop-first.line _ x ts closed c.loop-first.invariant.more c.in-Some.ensures.cases.0 c.in-Take.ensures.value refl h;
    }

pub returns-in-Unclosed : goal.returns-in-Unclosed
returns-in-Unclosed c =
    let h = ends 0 c.args.text.now _ c.loop-first.line c.loop-first.invariant.seen false c.loop-first.invariant.more (subst (λ l. AreTokens l c.loop-first.line [] false) (sym c.in-Some.ensures.cases.0) (unclosed (sym c.in-Unclosed.ensures.value))) in
    record { all = c.loop-first.invariant.seen; are = h; first = c.loop-first.invariant.first; plain = c.loop-first.invariant.plain; only = λ ts closed k. tokens_only h k }

pub returns : goal.returns
returns c =
    let h = ends 0 c.args.text.now _ c.loop-first.line c.loop-first.invariant.seen true c.loop-first.invariant.more (subst (λ l. AreTokens l c.loop-first.line [] true) (no_bytes c.loop-first.rest.now c.in_default.ensures.cases) none) in
    record { all = c.loop-first.invariant.seen; are = h; first = c.loop-first.invariant.first; plain = c.loop-first.invariant.plain; only = λ ts closed k. tokens_only h k }
