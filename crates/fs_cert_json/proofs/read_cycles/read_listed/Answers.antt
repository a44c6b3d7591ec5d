use Rattle.std.proofs.Common.{arith}
use Rattle.serde_json.specs.View.{view}
use Rattle.fs_cert_evidence.specs.CertificateFile.{IsCycleValue}
use Rattle.fs_kinds.specs.declared.fault.Fault.TheVariants.{BadCertificate}
use Rattle.fs_cert_json.proofs.Handed.{fault-handed}
use Rattle.fs_cert_evidence.proofs.Items.{refused_item}
use Rattle.fs_cert_json.specs.Kept.{KeepsCycle}
use Rattle.fs_cert_json.proofs.Lists.{kept_next}
use Rattle.fs_cert_json.proofs.read_cycles.read_listed.Goals as goal

pub returns-in_err-read_cycle-clause-bad : goal.returns-in_err-read_cycle-clause-bad
returns-in_err-read_cycle-clause-bad c =
    fault-handed c.from_residual.result _ BadCertificate c.from_residual.ensures.1 (λ is cycles.
    refused_item IsCycleValue (view c.args.value.now) c.deref-item-items.result.now c.loop-item.item-index
    c.item-item.result (rw c.deref-item-items.ensures.value c.in-Some.ensures) (omega arith) c.item-item.is
    (c.in_err-read_cycle.ensures.bad is) cycles)

pub loop-item-preserved : goal.loop-item-preserved
loop-item-preserved c =
    let cycle = c.in_ok-read_cycle.ensures.ok in
    kept_next IsCycleValue KeepsCycle c.deref-item-items.result.now c.loop-item.item-index c.item-item.result
    c.push.new.self.items c.loop-item.cycles.items c.in_ok-read_cycle.field-0 cycle.0
    c.in_ok-push.ensures.items c.loop-item.invariant (omega arith) c.item-item.is cycle.1 cycle.2
