use Rattle.std.proofs.Common.{string_bytes}
use Rattle.fs_app_place_and_order.proofs.Faults.{IfErr-handed}
use Rattle.fs_app_test.proofs.TestFaults.{test-met}
use Rattle.fs_app_test.specs.SaidVerdicts.{witness_in}
use Rattle.fs_app_test.specs.Verdicts.{of_test}
use Rattle.fs_app_sites_check_and_audit.proofs.said.said_of.Goals as goal

pub returns-in_err-own-clause-err : goal.returns-in_err-own-clause-err
returns-in_err-own-clause-err c =
    IfErr-handed c.from_residual.result _ _ c.from_residual.ensures.1 (λ n. of_test (c.in_err-own.ensures.err n))

pub returns-in_err-said-clause-err : goal.returns-in_err-said-clause-err
returns-in_err-said-clause-err c =
    IfErr-handed c.from_residual-in_err-said.result _ _ c.from_residual-in_err-said.ensures.1
    (λ n. test-met _ _ _ c.in_ok-own.ensures.ok c.in_err-said.ensures.err)

pub returns-clause-ok : goal.returns-clause-ok
returns-clause-ok c =
    let said = c.in_ok-said.said in
    let told = c.in_ok-said.ensures.ok in (
      string_bytes said.why,
      witness_in said.witness,
      record { the_test = _; reads = c.in_ok-own.ensures.ok; listed = told.listed; says = told.says },
    )
