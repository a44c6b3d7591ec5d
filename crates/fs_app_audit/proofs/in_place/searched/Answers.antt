use Rattle.std.proofs.Common.{inr, subst}
use Rattle.fs_model.specs.Test.{IsBounded}
use Rattle.fs_cert_evidence.specs.Sizes.{HasNoRunFault}
use Rattle.fs_app_place_and_order.proofs.Faults.{IfErr-handed}
use Rattle.fs_app_audit.proofs.in_place.searched.Goals as goal

pub returns-in_err-problem-clause-err : goal.returns-in_err-problem-clause-err
returns-in_err-problem-clause-err c =
    IfErr-handed c.from_residual.result _ _ c.from_residual.ensures.1 (λ other. inr (c.in_err-problem.ensures.err other))

pub cheapest-requires-clause-bounded : goal.cheapest-requires-clause-bounded
cheapest-requires-clause-bounded c = subst IsBounded c.in_ok-problem.ensures.same c.requires.bounded

pub cheapest-requires-clause-clean : goal.cheapest-requires-clause-clean
cheapest-requires-clause-clean c = subst HasNoRunFault c.in_ok-problem.ensures.same c.in_ok-problem.ensures.clean
