use Rattle.std.proofs.Common.{arith}
use Rattle.fs_app_error_messages.proofs.Walking.{bytes_left, blank_step, token_step, token_here, blank_few, token_few, open_few, end_few}
use Rattle.fs_app_error_messages.proofs.walk.token_start.Goals as goal

pub overflow_add-at : goal.overflow_add-at
overflow_add-at c = omega (arith, c.in-Blank.ensures.moves, bytes_left c.args.text.now c.from.result.now c.in-Some.after.now c.loop-first.at _ c.from.ensures c.in-Some.ensures.cases.0)

pub loop-first-smaller-in-Blank : goal.loop-first-smaller-in-Blank
loop-first-smaller-in-Blank c = omega (arith, c.in-Blank.ensures.moves, bytes_left c.args.text.now c.from.result.now c.in-Some.after.now c.loop-first.at _ c.from.ensures c.in-Some.ensures.cases.0)

pub loop-first-preserved-in-Blank : goal.loop-first-preserved-in-Blank
loop-first-preserved-in-Blank c = record {
  within = omega (arith, c.in-Blank.ensures.moves, bytes_left c.args.text.now c.from.result.now c.in-Some.after.now c.loop-first.at _ c.from.ensures c.in-Some.ensures.cases.0);
  before = λ at h. c.loop-first.invariant.before at (blank_step c.args.text.now _ _ at c.loop-first.at c.in-Blank.len _ _ c.from.ensures c.in-Some.ensures.cases.0 c.in-Blank.ensures.value h);
  few = λ h. c.loop-first.invariant.few (blank_few c.args.text.now _ _ c.loop-first.at c.in-Blank.len _ _ c.from.ensures c.in-Some.ensures.cases.0 c.in-Blank.ensures.value h);
}

pub returns-then-left-eq0-clause-begins : goal.returns-then-left-eq0-clause-begins
returns-then-left-eq0-clause-begins c = c.loop-first.invariant.before _ (token_here c.args.text.now _ _ c.loop-first.at c.in-Token.len _ _ c.from.ensures c.in-Some.ensures.cases.0 c.in-Token.ensures.value c.if-left-eq0.true)

pub returns-then-left-eq0-clause-within : goal.returns-then-left-eq0-clause-within
returns-then-left-eq0-clause-within c = omega (arith, bytes_left c.args.text.now c.from.result.now c.in-Some.after.now c.loop-first.at _ c.from.ensures c.in-Some.ensures.cases.0)

pub overflow_add-at-in-Token : goal.overflow_add-at-in-Token
overflow_add-at-in-Token c = omega (arith, c.in-Token.ensures.moves, bytes_left c.args.text.now c.from.result.now c.in-Some.after.now c.loop-first.at _ c.from.ensures c.in-Some.ensures.cases.0)

pub loop-first-smaller : goal.loop-first-smaller
loop-first-smaller c = omega (arith, c.in-Token.ensures.moves, bytes_left c.args.text.now c.from.result.now c.in-Some.after.now c.loop-first.at _ c.from.ensures c.in-Some.ensures.cases.0)

pub loop-first-preserved : goal.loop-first-preserved
loop-first-preserved c = record {
  within = omega (arith, c.in-Token.ensures.moves, bytes_left c.args.text.now c.from.result.now c.in-Some.after.now c.loop-first.at _ c.from.ensures c.in-Some.ensures.cases.0);
  before = λ at h. c.loop-first.invariant.before at (token_step c.args.text.now _ _ at c.loop-first.at c.in-Token.len _ _ _ c.from.ensures c.in-Some.ensures.cases.0 c.in-Token.ensures.value (omega arith) h);
  few = λ h. c.loop-first.invariant.few (token_few c.args.text.now _ _ c.loop-first.at c.in-Token.len _ _ _ c.from.ensures c.in-Some.ensures.cases.0 c.in-Token.ensures.value (omega arith) h);
}

pub returns-in-Open-clause-absent : goal.returns-in-Open-clause-absent
returns-in-Open-clause-absent c = λ none. c.loop-first.invariant.few (open_few c.args.text.now _ _ c.loop-first.at c.loop-first.left _ c.from.ensures c.in-Some.ensures.cases.0 c.in-Open.ensures.value)

pub returns-clause-absent : goal.returns-clause-absent
returns-clause-absent c = λ none. c.loop-first.invariant.few (end_few c.args.text.now _ c.loop-first.at c.loop-first.left c.from.ensures c.in_default.ensures.cases)
