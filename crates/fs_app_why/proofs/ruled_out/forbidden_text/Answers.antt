use Rattle.std.proofs.Common.{subst}
use Rattle.std.specs.Arc.{arc_value}
use Rattle.fs_judge.specs.Verdicts.{IsVerdict}
use Rattle.fs_app_place_and_order.proofs.Faults.{IfErr-handed}
use Rattle.fs_app_why.proofs.Faults.{run_is_candidate}
use Rattle.fs_app_why.proofs.ruled_out.forbidden_text.Goals as goal

pub returns-in_err-text-in-Forbids-clause-err : goal.returns-in_err-text-in-Forbids-clause-err
returns-in_err-text-in-Forbids-clause-err c =
    IfErr-handed c.from_residual-in_err-text-in-Forbids.result _ _ c.from_residual-in_err-text-in-Forbids.ensures.1
    (λ known. run_is_candidate (arc_value c.args.test.now) _ (c.in_err-text-in-Forbids.ensures.err known))

pub returns-clause-none : goal.returns-clause-none
returns-clause-none c =
    let shown = subst (IsVerdict (arc_value c.args.test.now) c.args.placement.now) c.in-Allowed.is c.in_ok-verdict.ensures.ok in
    (shown.0, shown.2)
