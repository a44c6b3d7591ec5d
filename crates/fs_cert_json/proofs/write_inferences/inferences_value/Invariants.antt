use Rattle.std.proofs.Common.{take}
use Rattle.serde_json.specs.View.{items_view}
use Rattle.fs_cert_evidence.specs.WitnessFile.{EachItem}
use Rattle.fs_cert_json.specs.inner.Written.{kept_inference_value}
use Rattle.fs_cert_json.proofs.Steps.{Is}
use Rattle.fs_cert_json.proofs.write_inferences.inferences_value.Given as goal

-- the values so far are what is written for the inferences so far
abbrev pub invariant-loop-inference : goal.invariant-loop-inference
invariant-loop-inference l = EachItem (Is kept_inference_value) (items_view l.values.items)
    (take l.inference-index l.inferences)
