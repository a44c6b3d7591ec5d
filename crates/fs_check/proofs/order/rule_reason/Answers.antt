use Rattle.std.proofs.Common.{sym}
use Rattle.fs_check.specs.Ordered.{runs_in}
use Rattle.fs_check.proofs.Breaking.{broken_rule, rule_has_first, rule_has_second, no_broken_rule}
use Rattle.fs_check.proofs.Found.{if_none}
use Rattle.fs_check.proofs.order.rule_reason.Goals as goal

pub returns-in_err-rule-clause-none : goal.returns-in_err-rule-clause-none
returns-in_err-rule-clause-none c =
    if_none _ _ (no_broken_rule (runs_in c.args.test.now c.args.ordered.now) c.args.placement.now c.args.ordered.now.order.listed (sym c.in_err-rule.ensures))

pub returns-in_err-first-clause-none : goal.returns-in_err-first-clause-none
returns-in_err-first-clause-none c =
    absurd (rule_has_first (runs_in c.args.test.now c.args.ordered.now) c.args.placement.now c.args.ordered.now.order.listed c.in_ok-rule.rule
    (sym c.in_ok-rule.ensures) (sym c.in_err-first.ensures))

pub returns-in_err-second-clause-none : goal.returns-in_err-second-clause-none
returns-in_err-second-clause-none c =
    absurd (rule_has_second (runs_in c.args.test.now c.args.ordered.now) c.args.placement.now c.args.ordered.now.order.listed c.in_ok-rule.rule c.in_ok-first.first
    (sym c.in_ok-first.ensures) (sym c.in_err-second.ensures))

pub operation_name-requires-clause-there : goal.operation_name-requires-clause-there
operation_name-requires-clause-there c =
    (broken_rule (runs_in c.args.test.now c.args.ordered.now) c.args.placement.now c.args.ordered.now.order.listed c.in_ok-rule.rule c.in_ok-first.first c.in_ok-second.second
    (sym c.in_ok-rule.ensures) (sym c.in_ok-first.ensures) (sym c.in_ok-second.ensures)).0

pub operation_name-requires-2-clause-there : goal.operation_name-requires-2-clause-there
operation_name-requires-2-clause-there c =
    (broken_rule (runs_in c.args.test.now c.args.ordered.now) c.args.placement.now c.args.ordered.now.order.listed c.in_ok-rule.rule c.in_ok-first.first c.in_ok-second.second
    (sym c.in_ok-rule.ensures) (sym c.in_ok-first.ensures) (sym c.in_ok-second.ensures)).1

pub returns-clause-some : goal.returns-clause-some
returns-clause-some c =
    let all = broken_rule (runs_in c.args.test.now c.args.ordered.now) c.args.placement.now c.args.ordered.now.order.listed c.in_ok-rule.rule c.in_ok-first.first c.in_ok-second.second
    (sym c.in_ok-rule.ensures) (sym c.in_ok-first.ensures) (sym c.in_ok-second.ensures) in
    record {
      kept = all.2;
      a = c.in_ok-first.first;
      b = c.in_ok-second.second;
      first_named = c.operation_name.ensures;
      second_named = c.operation_name-2.ensures;
      least = all.3;
    }
