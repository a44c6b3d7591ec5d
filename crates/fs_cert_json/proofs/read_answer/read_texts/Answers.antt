use Rattle.std.proofs.Common.{arith, string_bytes, sym, ◌∙◌, ap, Some}
use Rattle.serde_json.specs.View.{view}
use Rattle.fs_cert_evidence.specs.CertificateFile.{IsText}
use Rattle.fs_cert_evidence.proofs.Items.{refused_item}
use Rattle.fs_cert_json.proofs.Lists.{mapped_next}
use Rattle.fs_cert_json.proofs.read_answer.read_texts.Goals as goal

pub returns-in_default-as_str-clause-bad : goal.returns-in_default-as_str-clause-bad
returns-in_default-as_str-clause-bad c =
    λ _ texts. refused_item IsText (view c.args.value.now) c.deref-item-items.result.now c.loop-item.item-index c.item-item.result (rw c.deref-item-items.ensures.value c.in-Some.ensures) (omega arith) c.item-item.is (λ x h. let none = c.in_default-as_str.ensures in absurd (cc)) texts

pub loop-item-preserved : goal.loop-item-preserved
loop-item-preserved c =
    mapped_next IsText string_bytes c.deref-item-items.result.now c.loop-item.item-index c.item-item.result c.push.new.self.items c.loop-item.texts.items c.in_ok-from_str.field-0
    c.in_ok-push.ensures.items c.loop-item.invariant (omega arith) c.item-item.is (sym c.in-Some-as_str.ensures ∙ ap Some (sym c.in_ok-from_str.ensures.ok))
