use Rattle.std.proofs.Common.{inr}
use Rattle.fs_app_place_and_order.proofs.Faults.{IfErr-handed}
use Rattle.fs_app_sites.proofs.sited.read_sited.Goals as goal

pub returns-in_err-sites-clause-err : goal.returns-in_err-sites-clause-err
returns-in_err-sites-clause-err c =
    IfErr-handed c.from_residual-in_err-sites.result _ _ c.from_residual-in_err-sites.ensures.1
    (λ n. inr (c.in_ok-test.test, c.in_ok-test.ensures.ok, c.in_err-sites.ensures.err n))
