use Rattle.std.proofs.Common.{ap, subst, ◌∙◌, arith}
use Rattle.serde_json.specs.View.{view}
use Rattle.fs_cert_evidence.specs.Texts.{array_of}
use Rattle.fs_cert_json.specs.inner.Written.{kept_inference_value}
use Rattle.fs_cert_json.proofs.Steps.{each_next, Is, is_array, map_inferences}
use Rattle.fs_cert_json.proofs.write_inferences.inferences_value.Goals as goal

pub loop-inference-preserved : goal.loop-inference-preserved
loop-inference-preserved c =
    each_next (Is kept_inference_value) c.args.inferences.now c.loop-inference.inference-index c.inference-item.result
    c.loop-inference.values.items c.push.new.self.items c.in_ok-inference_value.field-0 (omega arith)
    c.in_ok-push.ensures.items (subst (Is kept_inference_value (view c.in_ok-inference_value.field-0))
    c.inference-item.is c.in_ok-inference_value.ensures) c.loop-inference.invariant

pub returns : goal.returns
returns c =
    is_array kept_inference_value (view c.from.result) c.loop-inference.values.items c.args.inferences.now
    c.loop-inference.inference-index (omega arith) c.from.ensures c.loop-inference.invariant
    ∙ ap array_of (map_inferences c.args.inferences.now)
