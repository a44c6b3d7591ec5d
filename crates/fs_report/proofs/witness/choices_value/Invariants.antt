use Rattle.std.proofs.Common.{take}
use Rattle.serde_json.specs.View.{items_view}
use Rattle.fs_cert_evidence.specs.WitnessFile.{EachItem}
use Rattle.fs_report.specs.inner.Written.{SaysChoice}
use Rattle.fs_report.proofs.witness.choices_value.Given as goal

-- the values so far say the items so far
abbrev pub invariant-loop-choice : goal.invariant-loop-choice
invariant-loop-choice l = EachItem SaysChoice (items_view l.values.items) (take l.choice-index l.choices)
