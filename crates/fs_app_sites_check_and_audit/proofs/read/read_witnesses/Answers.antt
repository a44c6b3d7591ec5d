use Rattle.std.proofs.Common.{arith}
use Rattle.serde_json.specs.View.{view}
use Rattle.fs_app_sites_check_and_audit.specs.Kept.{KeepsTestWitness}
use Rattle.fs_app_sites_check_and_audit.specs.SitesFile.{IsTestWitness}
use Rattle.fs_kinds.specs.declared.fault.Fault.TheVariants.{BadCertificate}
use Rattle.fs_cert_json.proofs.Handed.{fault-handed}
use Rattle.fs_cert_evidence.proofs.Items.{refused_item}
use Rattle.fs_cert_json.proofs.Lists.{kept_next}
use Rattle.fs_app_sites_check_and_audit.proofs.read.read_witnesses.Goals as goal

pub returns-in_err-read_witness-clause-bad : goal.returns-in_err-read_witness-clause-bad
returns-in_err-read_witness-clause-bad c =
    fault-handed c.from_residual.result _ BadCertificate c.from_residual.ensures.1 (λ is ws.
    refused_item IsTestWitness (view c.args.value.now) c.deref-item-items.result.now c.loop-item.item-index c.item-item.result (rw c.deref-item-items.ensures.value c.in-Some.ensures) (omega arith) c.item-item.is (c.in_err-read_witness.ensures.bad is) ws)

pub loop-item-preserved : goal.loop-item-preserved
loop-item-preserved c =
    let witness = c.in_ok-read_witness.ensures.ok in
    kept_next IsTestWitness KeepsTestWitness c.deref-item-items.result.now c.loop-item.item-index c.item-item.result c.push.new.self.items c.loop-item.witnesses.items c.in_ok-read_witness.field-0 witness.0
    c.in_ok-push.ensures.items c.loop-item.invariant (omega arith) c.item-item.is witness.1 witness.2
