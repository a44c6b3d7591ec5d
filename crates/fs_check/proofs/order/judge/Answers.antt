use Rattle.std.proofs.Common.{sym, ◌∙◌}
use Rattle.fs_check.proofs.Found.{outcome_is}
use Rattle.fs_check.proofs.order.judge.Goals as goal

pub returns-then-has_outcome : goal.returns-then-has_outcome
returns-then-has_outcome c = (
  (c.in_default.ensures.none, c.in_default-rule_reason.ensures.none, c.in_default-atomic_reason.ensures.none),
  sym (outcome_is c.args.test.now c.args.ordered.now c.requires.ordered c.as_slice-traces.result.now c.as_slice-operations.result.now c.order.result.now c.has_outcome.result
      c.as_slice-traces.ensures c.as_slice-operations.ensures c.order.ensures c.has_outcome.ensures) ∙ c.if-has_outcome.true,
)

pub returns-else-has_outcome : goal.returns-else-has_outcome
returns-else-has_outcome c = (
  (c.in_default.ensures.none, c.in_default-rule_reason.ensures.none, c.in_default-atomic_reason.ensures.none),
  sym (outcome_is c.args.test.now c.args.ordered.now c.requires.ordered c.as_slice-traces.result.now c.as_slice-operations.result.now c.order.result.now c.has_outcome.result
      c.as_slice-traces.ensures c.as_slice-operations.ensures c.order.ensures c.has_outcome.ensures) ∙ c.if-has_outcome.false,
)
