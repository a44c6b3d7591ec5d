use Rattle.std.proofs.Common.{subst}
use Rattle.std.specs.Prelude.{IfSome, IfNone}
use Rattle.fs_check.specs.Verdicts.{IsFoundBy, HasNoOrder}
use Rattle.fs_check.proofs.Verdicts.{decided}
use Rattle.fs_check.proofs.order.judge_runs.Goals as goal

pub returns-in-Some-clause-ok : goal.returns-in-Some-clause-ok
returns-in-Some-clause-ok c w keeps =
    let found = subst (λ found. IfSome found (IsFoundBy c.args.test.now c.args.file.now w)) c.in-Some.is (c.in_ok-ordered.ensures.some w keeps) in
    decided c.args.test.now c.args.placement.now c.args.file.now w keeps c.in-Some.ordered c.judge.result found.0 found.1 c.judge.ensures

pub returns-in-None-clause-ok : goal.returns-in-None-clause-ok
returns-in-None-clause-ok c w keeps =
    subst (λ found. IfNone found (HasNoOrder c.args.test.now w)) c.in-None.is (c.in_ok-ordered.ensures.none w keeps) c.args.placement.now
