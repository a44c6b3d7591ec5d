use Rattle.std.proofs.Common.{arith, sym}
use Rattle.serde_json.specs.View.{view}
use Rattle.fs_cert_evidence.specs.CertificateFile.{IsNumber}
use Rattle.fs_cert_evidence.proofs.Items.{item_next, refused_item}
use Rattle.fs_cert_json.proofs.read_tree.read_numbers.Goals as goal

pub returns-in_default-number_in-clause-bad : goal.returns-in_default-number_in-clause-bad
returns-in_default-number_in-clause-bad c =
    λ _ numbers. refused_item IsNumber (view c.args.value.now) c.deref-item-items.result.now c.loop-item.item-index c.item-item.result (rw c.deref-item-items.ensures.value c.in-Some.ensures) (omega arith) c.item-item.is (λ x h. absurd (cc)) numbers

pub loop-item-preserved : goal.loop-item-preserved
loop-item-preserved c =
    rw c.in_ok-push.ensures.items
    (item_next IsNumber c.deref-item-items.result.now c.loop-item.item-index c.item-item.result c.loop-item.numbers.items c.in-Some-number_in.number c.loop-item.invariant (omega arith) c.item-item.is (sym c.in-Some-number_in.ensures))
