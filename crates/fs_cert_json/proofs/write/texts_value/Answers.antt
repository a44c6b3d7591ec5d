use Rattle.std.proofs.Common.{ap, subst, ◌∙◌, arith}
use Rattle.serde_json.specs.Data.{string}
use Rattle.serde_json.specs.View.{view}
use Rattle.fs_cert_evidence.specs.Texts.{array_of}
use Rattle.fs_cert_json.specs.inner.Written.{text_value}
use Rattle.fs_cert_json.proofs.Steps.{each_next, Is, is_array, map_texts}
use Rattle.fs_cert_json.proofs.write.texts_value.Goals as goal

pub loop-text-preserved : goal.loop-text-preserved
loop-text-preserved c =
    each_next (Is text_value) c.args.texts.now c.loop-text.text-index c.text-item.result c.loop-text.values.items c.push.new.self.items c.in_ok-text_value.field-0 (omega arith)
    c.in_ok-push.ensures.items (subst (Is text_value (view c.in_ok-text_value.field-0)) c.text-item.is (c.in_ok-text_value.ensures ∙ ap string c.as_str.ensures.value)) c.loop-text.invariant

pub returns : goal.returns
returns c =
    is_array text_value (view c.from.result) c.loop-text.values.items c.args.texts.now c.loop-text.text-index (omega arith) c.from.ensures c.loop-text.invariant ∙ ap array_of (map_texts c.args.texts.now)
