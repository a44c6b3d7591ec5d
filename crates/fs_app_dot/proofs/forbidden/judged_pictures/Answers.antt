use Rattle.std.specs.Arc.{arc_value}
use Rattle.fs_app_place_and_order.proofs.Faults.{IfErr-handed}
use Rattle.fs_app_why.proofs.Faults.{run_is_candidate}
use Rattle.fs_app_dot.proofs.forbidden.judged_pictures.Goals as goal

pub returns-in_err-pictures-in-Forbids-clause-err : goal.returns-in_err-pictures-in-Forbids-clause-err
returns-in_err-pictures-in-Forbids-clause-err c =
    IfErr-handed c.from_residual-in_err-pictures-in-Forbids.result _ _ c.from_residual-in_err-pictures-in-Forbids.ensures.1
    (λ known. run_is_candidate (arc_value c.args.test.now) _ (c.in_err-pictures-in-Forbids.ensures.err known))
