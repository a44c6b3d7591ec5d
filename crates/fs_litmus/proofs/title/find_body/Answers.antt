use Rattle.std.proofs.Common.{◌≡◌, sym, subst, ◌∙◌, arith, true, false}
use Rattle.fs_litmus_tokens.specs.Bytes.{begins}
use Rattle.fs_litmus.specs.Title.{IsBody, here, later}
use Rattle.fs_litmus.proofs.Bodies.{below}
use Rattle.fs_litmus.proofs.title.find_body.Goals as goal

pub returns-then-begins-clause-value : goal.returns-then-begins-clause-value
returns-then-begins-clause-value c =
    let is_brace = sym c.begins.ensures ∙ c.if-begins.true in
    let same = c.unindented-text.ensures.value in
    c.loop-rest.invariant.found _ _ (subst (λ t. IsBody c.loop-rest.rest.now c.loop-rest.at t c.loop-rest.at) (sym same) (here (subst (λ t. begins 123 t ≡ true) same is_brace)))

pub loop-rest-preserved : goal.loop-rest-preserved
loop-rest-preserved c =
    let not_brace = sym c.begins.ensures ∙ c.if-begins.false in
    let here_false = subst (λ t. begins 123 t ≡ false) c.unindented-text.ensures.value not_brace in
    record {
      room = omega (arith, c.in_ok-rest.ensures.shorter);
      found = λ text n h. c.loop-rest.invariant.found text n (later here_false (sym c.in_ok-rest.ensures.value) h);
      kept = λ text n h. below here_false (sym c.in_ok-rest.ensures.value) (c.loop-rest.invariant.kept text n h);
    }
