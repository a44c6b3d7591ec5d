use Rattle.serde_json.specs.View.{view}
use Rattle.fs_cert_evidence.specs.WitnessFile.{IsChoice}
use Rattle.std.proofs.Common.{sym, arith}
use Rattle.fs_cert_evidence.proofs.Items.{item_next, refused_item}
use Rattle.fs_cert_evidence.proofs.witness.read_choices.Goals as goal

pub returns-in_default-choice_in-clause-bad : goal.returns-in_default-choice_in-clause-bad
returns-in_default-choice_in-clause-bad c =
    λ _ choices. refused_item IsChoice (view c.args.value.now) c.deref-item-items.result.now c.loop-item.item-index c.item-item.result (rw c.deref-item-items.ensures.value c.in-Some.ensures) (omega arith) c.item-item.is (λ x e. absurd (cc)) choices

pub loop-item-preserved : goal.loop-item-preserved
loop-item-preserved c =
    rw c.in_ok-push.ensures.items
    (item_next IsChoice c.deref-item-items.result.now c.loop-item.item-index c.item-item.result c.loop-item.choices.items c.in-Some-choice_in.choice c.loop-item.invariant (omega arith) c.item-item.is (sym c.in-Some-choice_in.ensures))
