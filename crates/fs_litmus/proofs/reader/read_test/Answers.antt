use Rattle.std.proofs.Common.{rules, arith, refl, sym, ap, ◌∙◌, subst}
use Rattle.fs_litmus_tokens.specs.Tokens.{AreTokens, views}
use Rattle.fs_kinds.specs.declared.fault.Fault.TheVariants.{Syntax}
use Rattle.fs_litmus_syntax.specs.Form.{form_of}
use Rattle.fs_kinds.specs.FaultOrder.{IsFirst}
use Rattle.fs_litmus.specs.Faults.{HasFault, no_block}
use Rattle.fs_litmus.specs.Reads.{HasTokens}
use Rattle.fs_litmus.specs.Rising.{entry_lines}
use Rattle.fs_litmus.specs.inner.Sections.{fault_of}
use Rattle.fs_litmus.specs.Title.{HasTitle}
use Rattle.fs_litmus.proofs.Sections.{stop_first, open_first, test_first, test_clean, titled, tokens_there}
use Rattle.fs_litmus.proofs.RisingLines.{lower, form_rises}
use Rattle.fs_litmus.proofs.FrontFaults.{first_encoding, first_title, first_broken}
use Rattle.fs_litmus.proofs.ReadsOnce.{once}
use Rattle.fs_litmus.proofs.ReadsTest.{tested}
use Rattle.fs_litmus.proofs.reader.read_test.Goals as goal

pub returns-in_default-clause-err : goal.returns-in_default-clause-err
returns-in_default-clause-err c = λ _. first_encoding c.args.bytes.now c.in_default.ensures.cases.0

pub returns-in_default-read_title-clause-err : goal.returns-in_default-read_title-clause-err
returns-in_default-read_title-clause-err c = λ _.
    let read = c.in-Ok.ensures.cases in
    first_title c.args.bytes.now read.1 (λ name h. c.in_default-read_title.ensures.absent refl name (subst (λ b. HasTitle b name) (sym read.0) h))

pub returns-in_default-skip_title-clause-err : goal.returns-in_default-skip_title-clause-err
returns-in_default-skip_title-clause-err c = λ _.
    let read = c.in-Ok.ensures.cases in
    let title = titled c.args.bytes.now c.in-Ok.content.now c.in-Some.title.now read.0 c.in-Some.ensures.named in
    subst (λ line. IsFirst (HasFault c.args.bytes.now) (Syntax line)) (sym c.last_line-last.ensures) (first_broken c.args.bytes.now c.in-Some.title.now _ read.1 title (no_block (c.in_default-skip_title.ensures.absent refl)))

pub returns-in-Err-clause-err : goal.returns-in-Err-clause-err
returns-in-Err-clause-err c = λ known.
    let read = c.in-Ok.ensures.cases in
    let title = titled c.args.bytes.now c.in-Ok.content.now c.in-Some.title.now read.0 c.in-Some.ensures.named in
    let there = tokens_there c.args.bytes.now _ _ c.in_ok-tokens.tokens.items c.deref.result.now c.in_ok-tokens.closed c.in-Some-skip_title.ensures.value c.deref.ensures.value c.in_ok-tokens.ensures.are in
    stop_first c.args.bytes.now c.in-Some.title.now (views c.deref.result.now) c.in_ok-tokens.closed c.in-Err.stop c.stopped.result read.1 title there c.in-Err.ensures.stops (c.stopped.ensures ∙ ap (fault_of c.in-Err.stop) c.last_line-last.ensures) known

pub returns-then-not-closed-clause-err : goal.returns-then-not-closed-clause-err
returns-then-not-closed-clause-err c = λ _.
    let read = c.in-Ok.ensures.cases in
    let title = titled c.args.bytes.now c.in-Ok.content.now c.in-Some.title.now read.0 c.in-Some.ensures.named in
    let there = tokens_there c.args.bytes.now _ _ c.in_ok-tokens.tokens.items c.deref.result.now c.in_ok-tokens.closed c.in-Some-skip_title.ensures.value c.deref.ensures.value c.in_ok-tokens.ensures.are in
    let unclosed = subst (λ b. HasTokens c.args.bytes.now (views c.deref.result.now) b) (c.if-not-closed.true) there in
    subst (λ line. IsFirst (HasFault c.args.bytes.now) (Syntax line)) (sym c.last_line-last.ensures) (open_first c.args.bytes.now c.in-Some.title.now (views c.deref.result.now) _ _ read.1 title unclosed c.in-Ok-read_sections.ensures.ok)

pub returns-clause-err : goal.returns-clause-err
returns-clause-err c =
    let read = c.in-Ok.ensures.cases in
    let title = titled c.args.bytes.now c.in-Ok.content.now c.in-Some.title.now read.0 c.in-Some.ensures.named in
    let there = tokens_there c.args.bytes.now _ _ c.in_ok-tokens.tokens.items c.deref.result.now c.in_ok-tokens.closed c.in-Some-skip_title.ensures.value c.deref.ensures.value c.in_ok-tokens.ensures.are in
    let whole = subst (λ b. HasTokens c.args.bytes.now (views c.deref.result.now) b) c.if-not-closed.false there in
    test_first c.args.bytes.now c.in-Some.title.now (views c.deref.result.now) (form_of c.in-Ok-read_sections.sections.0) c.in-Ok-read_sections.sections.1 c.interpret.result read.1 title whole c.in-Ok-read_sections.ensures.ok c.interpret.ensures.first

pub returns-clause-clean : goal.returns-clause-clean
returns-clause-clean c =
    let read = c.in-Ok.ensures.cases in
    let title = titled c.args.bytes.now c.in-Ok.content.now c.in-Some.title.now read.0 c.in-Some.ensures.named in
    let there = tokens_there c.args.bytes.now _ _ c.in_ok-tokens.tokens.items c.deref.result.now c.in_ok-tokens.closed c.in-Some-skip_title.ensures.value c.deref.ensures.value c.in_ok-tokens.ensures.are in
    let whole = subst (λ b. HasTokens c.args.bytes.now (views c.deref.result.now) b) c.if-not-closed.false there in
    test_clean c.args.bytes.now c.in-Some.title.now (views c.deref.result.now) (form_of c.in-Ok-read_sections.sections.0) c.in-Ok-read_sections.sections.1 c.interpret.result read.1 title whole c.in-Ok-read_sections.ensures.ok c.interpret.ensures.clean

pub returns-clause-ok : goal.returns-clause-ok
returns-clause-ok c = search rules

pub returns-clause-test : goal.returns-clause-test
returns-clause-test c = tested c.args.bytes.now c.interpret.result (returns-clause-ok c)

pub returns-clause-once : goal.returns-clause-once
returns-clause-once c = once c.args.bytes.now c.interpret.result (returns-clause-ok c)

pub interpret-requires-clause-rising : goal.interpret-requires-clause-rising
interpret-requires-clause-rising c =
    let text = c.in-Some-skip_title.field-0.text.now in
    let line = c.in-Some-skip_title.field-0.line in
    let tokens = subst (λ ts. AreTokens text line (views ts) c.in_ok-tokens.closed) (sym c.deref.ensures.value) c.in_ok-tokens.ensures.are in
    lower 0 line (entry_lines (form_of c.in-Ok-read_sections.sections.0).entries) (omega arith) (form_rises tokens c.in-Ok-read_sections.ensures.ok.is_form)
