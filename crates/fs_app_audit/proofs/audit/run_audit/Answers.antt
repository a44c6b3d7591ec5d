use Rattle.std.proofs.lemmas.Result.{IfErr-weaker, IfOk-weaker}
use Rattle.fs_app_place_and_order.proofs.Faults.{IfErr-handed, IsPricesFault-read}
use Rattle.fs_app_audit.specs.Audit.{of_anew}
use Rattle.fs_app_audit.specs.declared.asked.Purpose.TheVariants.{Advise}
use Rattle.fs_app_audit.proofs.FirstFaults.{audit-prices, audit-test, audit-written}
use Rattle.fs_app_audit.proofs.audit.run_audit.Goals as goal

pub returns-in_err-table-clause-fault : goal.returns-in_err-table-clause-fault
returns-in_err-table-clause-fault c =
    let said = c.in_err-table.ensures in
    IfErr-handed c.from_residual.result _ _ c.from_residual.ensures.1
    (of_anew (audit-prices Advise _ _ c.args.limits.nodes _ (IsPricesFault-read _ _ said.err said.bad said.no_top)))

pub returns-in_err-own-clause-fault : goal.returns-in_err-own-clause-fault
returns-in_err-own-clause-fault c =
    IfErr-handed c.from_residual-in_err-own.result _ _ c.from_residual-in_err-own.ensures.1
    (of_anew (audit-test Advise _ c.args.prices.now c.args.limits.nodes _ c.in_ok-table.ensures.ok _ c.in_err-own.ensures.err))

pub returns-in_err-said-clause-fault : goal.returns-in_err-said-clause-fault
returns-in_err-said-clause-fault c =
    IfErr-handed c.from_residual-in_err-said.result _ _ c.from_residual-in_err-said.ensures.1
    (of_anew (audit-written Advise _ c.args.prices.now c.args.limits.nodes _ c.in_ok-table.ensures.ok _ c.in_ok-own.ensures.ok _ c.in_err-said.ensures.err))

pub returns-clause-answer : goal.returns-clause-answer
returns-clause-answer c =
    IfOk-weaker c.answer.result _ _ (λ output h. h c.args.prices.now c.in_ok-table.ensures.ok) c.answer.ensures.answer

pub returns-clause-fault : goal.returns-clause-fault
returns-clause-fault c =
    IfErr-weaker c.answer.result _ _ (λ f h. h c.args.prices.now c.in_ok-table.ensures.ok) c.answer.ensures.fault
