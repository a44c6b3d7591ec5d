use Rattle.std.proofs.Common.{take}
use Rattle.serde_json.specs.View.{items_view}
use Rattle.fs_cert_evidence.specs.WitnessFile.{EachItem}
use Rattle.fs_cert_json.specs.inner.Written.{WritesWitness}
use Rattle.fs_cert_json.proofs.write_witnesses.witnesses_value.Given as goal

-- the values so far are what is written for the witnesses so far
abbrev pub invariant-loop-witness : goal.invariant-loop-witness
invariant-loop-witness l = EachItem WritesWitness (items_view l.values.items) (take l.witness-index l.witnesses)
