use Rattle.std.proofs.Common.{take}
use Rattle.serde_json.specs.View.{items_view}
use Rattle.fs_cert_evidence.specs.WitnessFile.{EachItem}
use Rattle.fs_report.specs.inner.Written.{SaysChoices}
use Rattle.fs_report.proofs.witness.lists_value.Given as goal

-- the values so far say the items so far
abbrev pub invariant-loop-choices : goal.invariant-loop-choices
invariant-loop-choices l = EachItem SaysChoices (items_view l.values.items) (take l.choices-index l.lists)
