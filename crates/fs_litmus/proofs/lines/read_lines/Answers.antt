use Rattle.std.proofs.Common.{sym, subst, refl, ap, ◌∙◌}
use Rattle.fs_litmus_tokens.specs.Tokens.{views}
use Rattle.fs_litmus_syntax.specs.Body.{cells_of}
use Rattle.fs_litmus_syntax.specs.Form.{form_of}
use Rattle.fs_litmus_syntax.specs.Lines.{AreLines}
use Rattle.fs_litmus.specs.Faults.{no_block}
use Rattle.fs_litmus.specs.Reads.{HasTokens}
use Rattle.fs_litmus.specs.Title.{last_line}
use Rattle.fs_litmus.specs.inner.Sections.{fault_of}
use Rattle.fs_litmus.proofs.Sections.{has_form, open_broken, stop_broken, tokens_there}
use Rattle.fs_litmus.proofs.lines.read_lines.Goals as goal

pub returns-in_default-clause-err : goal.returns-in_default-clause-err
returns-in_default-clause-err c = λ _. (last_line c.args.bytes.now, no_block (c.in_default.ensures.absent refl))

pub returns-in-Err-clause-err : goal.returns-in-Err-clause-err
returns-in-Err-clause-err c = λ known.
    let bytes = c.args.bytes.now in
    let there = tokens_there bytes _ _ c.in_ok-tokens.tokens.items c.deref.result.now c.in_ok-tokens.closed c.in-Some.ensures.value c.deref.ensures.value c.in_ok-tokens.ensures.are in
    stop_broken bytes (views c.deref.result.now) c.in_ok-tokens.closed c.in-Err.stop c.stopped.result there c.in-Err.ensures.stops (c.stopped.ensures ∙ ap (fault_of c.in-Err.stop) c.last_line-last.ensures) known

pub returns-then-not-closed-clause-err : goal.returns-then-not-closed-clause-err
returns-then-not-closed-clause-err c = λ _.
    let bytes = c.args.bytes.now in
    let there = tokens_there bytes _ _ c.in_ok-tokens.tokens.items c.deref.result.now c.in_ok-tokens.closed c.in-Some.ensures.value c.deref.ensures.value c.in_ok-tokens.ensures.are in
    open_broken bytes (views c.deref.result.now) _ _ (subst (λ b. HasTokens bytes (views c.deref.result.now) b) c.if-not-closed.true there) c.in-Ok.ensures.ok

pub returns-clause-ok : goal.returns-clause-ok
returns-clause-ok c =
    let bytes = c.args.bytes.now in
    let sections = c.in-Ok.sections in
    let there = tokens_there bytes _ _ c.in_ok-tokens.tokens.items c.deref.result.now c.in_ok-tokens.closed c.in-Some.ensures.value c.deref.ensures.value c.in_ok-tokens.ensures.are in
    let whole = subst (λ b. HasTokens bytes (views c.deref.result.now) b) c.if-not-closed.false there in
    record {
      form = form_of sections.0;
      syntax_of = c.in-Ok.ensures.ok.syntax_of;
      has_form = has_form bytes (views c.deref.result.now) (form_of sections.0) sections.1 whole c.in-Ok.ensures.ok;
      are_lines = subst (λ cells. AreLines sections.0.columns cells c.in_ok-read_lines.field-0.items)
          (ap cells_of c.deref-2.ensures.value ∙ c.in-Ok.ensures.whole) c.in_ok-read_lines.ensures;
    }
