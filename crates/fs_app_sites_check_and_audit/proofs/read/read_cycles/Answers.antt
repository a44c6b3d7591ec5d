use Rattle.std.proofs.Common.{arith, map}
use Rattle.serde_json.specs.View.{view}
use Rattle.fs_kinds.specs.declared.fault.Fault.TheVariants.{BadCertificate}
use Rattle.fs_cert_evidence.specs.Inferences.{inference_of}
use Rattle.fs_cert_evidence.specs.CertificateFile.{IsInference}
use Rattle.fs_cert_evidence.specs.WitnessFile.{IsArrayOf}
use Rattle.fs_cert_evidence.proofs.Items.{refused_item}
use Rattle.fs_cert_json.proofs.Handed.{fault-handed}
use Rattle.fs_cert_json.proofs.Lists.{mapped_next}
use Rattle.fs_app_sites_check_and_audit.proofs.read.read_cycles.Goals as goal

pub returns-in_err-read_inferences-clause-bad : goal.returns-in_err-read_inferences-clause-bad
returns-in_err-read_inferences-clause-bad c =
    fault-handed c.from_residual.result _ BadCertificate c.from_residual.ensures.1 (λ is cycles.
    refused_item (IsArrayOf IsInference) (view c.args.value.now) c.deref-item-items.result.now c.loop-item.item-index
    c.item-item.result (rw c.deref-item-items.ensures.value c.in-Some.ensures) (omega arith) c.item-item.is
    (c.in_err-read_inferences.ensures.bad is) cycles)

pub loop-item-preserved : goal.loop-item-preserved
loop-item-preserved c =
    mapped_next (IsArrayOf IsInference) (map inference_of) c.deref-item-items.result.now c.loop-item.item-index c.item-item.result
    c.push.new.self.items c.loop-item.cycles.items c.in_ok-read_inferences.field-0
    c.in_ok-push.ensures.items c.loop-item.invariant (omega arith) c.item-item.is c.in_ok-read_inferences.ensures.ok
