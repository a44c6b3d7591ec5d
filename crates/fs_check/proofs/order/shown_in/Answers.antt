use Rattle.std.proofs.Common.{subst}
use Rattle.std.specs.Prelude.{IfSome, IfNone}
use Rattle.fs_kinds.specs.declared.reason.Reason.TheVariants as reason
use Rattle.fs_check.specs.Verdicts.{IsFoundBy, HasNoOrder, IsJudgement}
use Rattle.fs_check.proofs.Verdicts.{shown_as}
use Rattle.fs_check.proofs.Shown.{unshown, refused}
use Rattle.fs_check.proofs.order.shown_in.Goals as goal

pub returns-in_default-clause-none : goal.returns-in_default-clause-none
returns-in_default-clause-none c w keeps =
    refused c.args.test.now c.args.placement.now w reason.Order c.requires.test.forward
    (subst (λ found. IfNone found (HasNoOrder c.args.test.now w)) c.in_default.is (c.in_ok-ordered.ensures.none w keeps) c.args.placement.now)

pub returns-in-Yes-clause-some : goal.returns-in-Yes-clause-some
returns-in-Yes-clause-some c w keeps =
    shown_as c.args.test.now c.args.placement.now c.args.file.now w keeps c.in-Some.ordered
    (subst (λ found. IfSome found (IsFoundBy c.args.test.now c.args.file.now w)) c.in-Some.is (c.in_ok-ordered.ensures.some w keeps))
    (subst (IsJudgement c.args.test.now c.args.placement.now c.in-Some.ordered) c.in-Yes.is c.judge.ensures)

pub returns-in-No-clause-none : goal.returns-in-No-clause-none
returns-in-No-clause-none c w keeps =
    unshown c.args.test.now c.args.placement.now c.args.file.now w keeps c.in-Some.ordered
    (subst (λ found. IfSome found (IsFoundBy c.args.test.now c.args.file.now w)) c.in-Some.is (c.in_ok-ordered.ensures.some w keeps))
    c.in-No.field-0 c.requires.test.forward
    (subst (IsJudgement c.args.test.now c.args.placement.now c.in-Some.ordered) c.in-No.is c.judge.ensures)
