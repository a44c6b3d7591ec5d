use Rattle.std.proofs.Common.{inl, inr}
use Rattle.fs_app_place_and_order.proofs.Faults.{IfErr-handed}
use Rattle.fs_app_sites_check_and_audit.proofs.held.read_held.Goals as goal

pub returns-in_err-copies-clause-err : goal.returns-in_err-copies-clause-err
returns-in_err-copies-clause-err c =
    IfErr-handed c.from_residual-in_err-copies.result _ _ c.from_residual-in_err-copies.ensures.1
    (λ n. inr (_, c.in_ok-test.ensures.ok, c.in_err-copies.ensures.err n))

pub returns-in_err-written-clause-err : goal.returns-in_err-written-clause-err
returns-in_err-written-clause-err c =
    IfErr-handed c.from_residual-in_err-written.result _ _ c.from_residual-in_err-written.ensures.1
    (λ n. inr (_, c.in_ok-test.ensures.ok, inl (c.in_err-written.ensures.err n)))
