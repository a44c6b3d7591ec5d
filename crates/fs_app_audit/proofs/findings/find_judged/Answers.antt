use Rattle.std.proofs.Common.{◌≢◌, subst}
use Rattle.std.specs.Arc.{arc_value}
use Rattle.fs_kinds.specs.declared.fault.Fault.TheVariants.{Memory}
use Rattle.fs_kinds.specs.PriceTable.{PriceTable}
use Rattle.fs_cert_evidence.specs.Sizes.{IsUnanswered}
use Rattle.fs_app_place_and_order.proofs.Faults.{IfErr-handed}
use Rattle.fs_app_audit.proofs.Chosen.{placement-advised}
use Rattle.fs_app_audit.proofs.FirstFaults.{audit-memory, audit-search, audit-test}
use Rattle.fs_app_audit.proofs.findings.find_judged.Goals as goal

pub returns-in_err-question-clause-fault : goal.returns-in_err-question-clause-fault
returns-in_err-question-clause-fault c =
    IfErr-handed c.from_residual.result _ _ c.from_residual.ensures.1
    (λ file priced. audit-test c.args.purpose _ file c.args.limits.nodes c.args.prices priced _ c.in_err-question.ensures.err)

pub returns-in_err-asked-clause-fault : goal.returns-in_err-asked-clause-fault
returns-in_err-asked-clause-fault c =
    IfErr-handed c.from_residual-in_err-asked.result _ _ c.from_residual-in_err-asked.ensures.1
    (λ file priced. audit-test c.args.purpose _ file c.args.limits.nodes c.args.prices priced _ c.in_err-asked.ensures.err)

pub returns-in_err-fences-clause-fault : goal.returns-in_err-fences-clause-fault
returns-in_err-fences-clause-fault c =
    IfErr-handed c.from_residual-in_err-fences.result _ _ c.from_residual-in_err-fences.ensures.1
    (λ file priced. audit-memory c.args.purpose _ file c.args.limits.nodes _ c.in_err-fences.ensures.err)

pub returns-in_err-best-clause-fault : goal.returns-in_err-best-clause-fault
returns-in_err-best-clause-fault c =
    let fault = c.in_err-best.field-0.0 in
    let bare = (arc_value c.in_ok-question.question).test in
    IfErr-handed c.from_residual-in_err-best.result _ _ c.from_residual-in_err-best.ensures.1
    (λ file priced. audit-search c.args.purpose _ file c.args.limits.nodes c.args.prices priced (arc_value c.args.written.test) c.requires.reads bare
    (c.args.written.kind, c.requires.tested.0, c.requires.tested.1, c.requires.tested.2) (c.in_ok-question.ensures.same _ c.requires.reads) fault
    (subst (λ (table : PriceTable). fault ≢ Memory → IsUnanswered bare table c.args.limits.nodes fault) c.in_ok-question.ensures.prices
    c.in_err-best.ensures.err))

pub returns-in_err-lines-clause-fault : goal.returns-in_err-lines-clause-fault
returns-in_err-lines-clause-fault c =
    IfErr-handed c.from_residual-in_err-lines.result _ _ c.from_residual-in_err-lines.ensures.1
    (λ file priced. audit-memory c.args.purpose _ file c.args.limits.nodes _ c.in_err-lines.ensures.err)

pub returns-clause-sound : goal.returns-clause-sound
returns-clause-sound c = record {
  written = c.requires.test.bounded;
  asked = c.in_ok-asked.ensures.bounded;
  bare = c.in_ok-question.ensures.bounded;
  fences = c.in_ok-fences.ensures.offered;
  best = placement-advised _ _ _ _ c.in_ok-best.ensures.ok;
}
