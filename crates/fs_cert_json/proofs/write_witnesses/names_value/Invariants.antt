use Rattle.std.proofs.Common.{take}
use Rattle.serde_json.specs.View.{items_view}
use Rattle.fs_cert_evidence.specs.WitnessFile.{EachItem}
use Rattle.fs_cert_json.specs.inner.Written.{WritesName}
use Rattle.fs_cert_json.proofs.write_witnesses.names_value.Given as goal

-- the values so far are what is written for the names so far
abbrev pub invariant-loop-name : goal.invariant-loop-name
invariant-loop-name l = EachItem WritesName (items_view l.values.items) (take l.name-index l.names)
