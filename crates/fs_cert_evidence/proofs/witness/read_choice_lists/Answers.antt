use Rattle.serde_json.specs.View.{view}
use Rattle.fs_cert_evidence.specs.WitnessFile.{IsArrayOf, IsChoice}
use Rattle.fs_cert_evidence.proofs.Handed.{bad-handed}
use Rattle.std.proofs.Common.{arith}
use Rattle.fs_cert_evidence.proofs.Items.{item_next, refused_item}
use Rattle.fs_cert_evidence.proofs.witness.read_choice_lists.Goals as goal

pub returns-in_err-read_choices-clause-bad : goal.returns-in_err-read_choices-clause-bad
returns-in_err-read_choices-clause-bad c =
    bad-handed c.from_residual.result _ c.from_residual.ensures.1 (λ is lists.
    refused_item (IsArrayOf IsChoice) (view c.args.value.now) c.deref-item-items.result.now c.loop-item.item-index c.item-item.result (rw c.deref-item-items.ensures.value c.in-Some.ensures) (omega arith) c.item-item.is (c.in_err-read_choices.ensures.bad is) lists)

pub loop-item-preserved : goal.loop-item-preserved
loop-item-preserved c =
    rw c.in_ok-push.ensures.items
    (item_next (IsArrayOf IsChoice) c.deref-item-items.result.now c.loop-item.item-index c.item-item.result c.loop-item.lists.items c.in_ok-read_choices.field-0 c.loop-item.invariant (omega arith) c.item-item.is c.in_ok-read_choices.ensures.ok)
