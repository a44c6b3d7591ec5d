use Rattle.fs_app_place_and_order.proofs.Faults.{IfErr-handed}
use Rattle.fs_app_solve_and_check.proofs.CheckFaults.{if_ok, of_test_fault, of_test_verdict}
use Rattle.fs_app_solve_and_check.proofs.check_answer.check_test.Goals as goal

pub returns-in_err-verdict-clause-fault : goal.returns-in_err-verdict-clause-fault
returns-in_err-verdict-clause-fault c =
    IfErr-handed c.from_residual-in_err-verdict.result _ _ c.from_residual-in_err-verdict.ensures.1
    (of_test_fault _ _ c.args.certificate.now _ c.in_ok-test.ensures.ok c.in_err-verdict.ensures.err)

pub returns-clause-object : goal.returns-clause-object
returns-clause-object c =
    let said = of_test_verdict _ _ c.args.prices.now c.args.certificate.now _ c.in_ok-test.ensures.ok c.in_ok-verdict.ensures.ok in
    if_ok _ _ c.verdict_output.result c.verdict_output.ensures.object
    (λ made shown. shown c.args.test c.args.prices.now said.certificate c.requires.bounded said.verdict)

pub returns-clause-answer : goal.returns-clause-answer
returns-clause-answer c =
    let said = of_test_verdict _ _ c.args.prices.now c.args.certificate.now _ c.in_ok-test.ensures.ok c.in_ok-verdict.ensures.ok in
    if_ok _ _ c.verdict_output.result c.verdict_output.ensures.answer
    (λ output shown.
    let printed = shown c.args.test c.args.prices.now said.certificate c.requires.bounded said.verdict in
    (said.certificate, said.says, said.clean, printed))
