use Rattle.std.proofs.Common.{arith}
use Rattle.serde_json.specs.View.{view}
use Rattle.fs_cert_evidence.specs.WitnessFile.{IsInRange}
use Rattle.fs_cert_json.specs.inner.Written.{IsKeptName, WritesName, name_value}
use Rattle.fs_cert_json.proofs.Steps.{each_next, writes_array}
use Rattle.fs_cert_json.proofs.write_witnesses.names_value.Goals as goal

pub loop-name-preserved : goal.loop-name-preserved
loop-name-preserved c =
    each_next WritesName c.args.names.now c.loop-name.name-index _ c.loop-name.values.items c.push.new.self.items c.in_ok-name_value.field-0 (omega arith)
    c.in_ok-push.ensures.items c.in_ok-name_value.ensures c.loop-name.invariant

pub returns : goal.returns
returns c =
    writes_array IsKeptName IsInRange name_value (view c.from.result) c.loop-name.values.items c.args.names.now c.loop-name.name-index (omega arith) c.from.ensures c.loop-name.invariant
