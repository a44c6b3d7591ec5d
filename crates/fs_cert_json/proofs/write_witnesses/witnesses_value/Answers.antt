use Rattle.std.proofs.Common.{subst, arith}
use Rattle.serde_json.specs.View.{view}
use Rattle.fs_cert_evidence.specs.Texts.{witness_value}
use Rattle.fs_cert_evidence.specs.WitnessFile.{KeepsWitness}
use Rattle.fs_cert_json.specs.Kept.{AreInRangeNames}
use Rattle.fs_cert_json.specs.inner.Written.{WritesWitness}
use Rattle.fs_cert_json.proofs.Steps.{each_next, writes_array}
use Rattle.fs_cert_json.proofs.write_witnesses.witnesses_value.Goals as goal

pub loop-witness-preserved : goal.loop-witness-preserved
loop-witness-preserved c =
    each_next WritesWitness c.args.witnesses.now c.loop-witness.witness-index c.witness-item.result c.loop-witness.values.items c.push.new.self.items c.in_ok-witness_value.field-0 (omega arith)
    c.in_ok-push.ensures.items (subst (WritesWitness (view c.in_ok-witness_value.field-0)) c.witness-item.is c.in_ok-witness_value.ensures) c.loop-witness.invariant

pub returns : goal.returns
returns c =
    writes_array KeepsWitness AreInRangeNames witness_value (view c.from.result) c.loop-witness.values.items c.args.witnesses.now c.loop-witness.witness-index (omega arith) c.from.ensures c.loop-witness.invariant
