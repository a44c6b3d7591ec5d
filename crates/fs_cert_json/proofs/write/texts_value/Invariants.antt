use Rattle.std.proofs.Common.{take}
use Rattle.serde_json.specs.View.{items_view}
use Rattle.fs_cert_evidence.specs.WitnessFile.{EachItem}
use Rattle.fs_cert_json.specs.inner.Written.{text_value}
use Rattle.fs_cert_json.proofs.Steps.{Is}
use Rattle.fs_cert_json.proofs.write.texts_value.Given as goal

-- the values so far are what is written for the texts so far
abbrev pub invariant-loop-text : goal.invariant-loop-text
invariant-loop-text l = EachItem (Is text_value) (items_view l.values.items) (take l.text-index l.texts)
