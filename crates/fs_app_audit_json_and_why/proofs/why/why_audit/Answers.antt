use Rattle.std.proofs.Common.{string_bytes, subst, sym}
use Rattle.std.specs.Arc.{arc_value}
use Rattle.std.proofs.lemmas.Result.{IfErr-weaker, IfOk-weaker}
use Rattle.fs_litmus.specs.Lines.{StandIn}
use Rattle.fs_litmus.specs.Reads.{Reads}
use Rattle.fs_model.specs.declared.test.Test.{Test}
use Rattle.fs_app_place_and_order.proofs.Faults.{IfErr-handed, IsPricesFault-read}
use Rattle.fs_app_test.specs.SaidVerdicts.{IsTestedAs, witness_in}
use Rattle.fs_app_audit.specs.Audit.{of_anew}
use Rattle.fs_app_audit.specs.declared.asked.Purpose.TheVariants.{Advise}
use Rattle.fs_app_audit.proofs.FirstFaults.{audit-prices, audit-test, audit-written}
use Rattle.fs_app_audit_json_and_why.specs.Why.{of_audit}
use Rattle.fs_app_audit_json_and_why.proofs.AnsweredWhy.{why-memory}
use Rattle.fs_app_audit_json_and_why.proofs.why.why_audit.Goals as goal

pub returns-in_err-table-clause-fault : goal.returns-in_err-table-clause-fault
returns-in_err-table-clause-fault c =
    let said = c.in_err-table.ensures in
    IfErr-handed c.from_residual.result _ _ c.from_residual.ensures.1
    (of_audit (of_anew (audit-prices Advise _ _ c.args.limits.nodes _ (IsPricesFault-read _ _ said.err said.bad said.no_top))))

pub returns-in_err-own-clause-fault : goal.returns-in_err-own-clause-fault
returns-in_err-own-clause-fault c =
    IfErr-handed c.from_residual-in_err-own.result _ _ c.from_residual-in_err-own.ensures.1
    (of_audit (of_anew (audit-test Advise _ c.args.prices.now c.args.limits.nodes _ c.in_ok-table.ensures.ok _ c.in_err-own.ensures.err)))

pub returns-in_err-said-clause-fault : goal.returns-in_err-said-clause-fault
returns-in_err-said-clause-fault c =
    IfErr-handed c.from_residual-in_err-said.result _ _ c.from_residual-in_err-said.ensures.1
    (of_audit (of_anew (audit-written Advise _ c.args.prices.now c.args.limits.nodes _ c.in_ok-table.ensures.ok _ c.in_ok-own.ensures.ok _ c.in_err-said.ensures.err)))

pub lines_of-requires : goal.lines_of-requires
lines_of-requires c = (arc_value c.in_ok-own.own, c.in_ok-own.ensures.ok)

pub returns-in_err-lines-clause-fault : goal.returns-in_err-lines-clause-fault
returns-in_err-lines-clause-fault c =
    IfErr-handed c.from_residual-in_err-lines.result _ _ c.from_residual-in_err-lines.ensures.1
    (why-memory c.args.test.now c.args.prices.now c.args.limits.nodes _ c.in_err-lines.ensures.err)

pub returns-clause-told : goal.returns-clause-told
returns-clause-told c =
    let bytes = c.args.test.now in
    let own = c.deref.result.now in
    IfOk-weaker c.told_text.result _ _
    (λ text told. record {
      own = own;
      reads = subst (λ (t : Test). Reads bytes t) (sym c.deref.ensures) c.in_ok-own.ensures.ok;
      table = c.in_ok-table.table;
      priced = c.in_ok-table.ensures.ok;
      lines = c.deref-2.result.now;
      stand = subst (StandIn bytes) (sym c.deref-2.ensures.value) c.in_ok-lines.ensures.ok;
      kind = c.in_ok-said.said.kind;
      why = string_bytes c.in_ok-said.said.why;
      witness = witness_in c.in_ok-said.said.witness;
      tested = subst (λ (t : Test). IsTestedAs t c.in_ok-said.said.kind (string_bytes c.in_ok-said.said.why) (witness_in c.in_ok-said.said.witness))
          (sym c.deref.ensures) c.in_ok-said.ensures.ok;
      tells = told;
    })
    c.told_text.ensures.told

pub returns-clause-fault : goal.returns-clause-fault
returns-clause-fault c =
    IfErr-weaker c.told_text.result _ _ (λ f h. h c.args.prices.now c.in_ok-table.ensures.ok) c.told_text.ensures.fault
