use Rattle.std.proofs.Common.{take}
use Rattle.serde_json.specs.View.{items_view}
use Rattle.fs_cert_evidence.specs.WitnessFile.{EachItem}
use Rattle.fs_report.specs.inner.Written.{SaysName}
use Rattle.fs_report.proofs.witness.names_value.Given as goal

-- the values so far say the items so far
abbrev pub invariant-loop-name : goal.invariant-loop-name
invariant-loop-name l = EachItem SaysName (items_view l.values.items) (take l.name-index l.names)
