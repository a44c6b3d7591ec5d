use Rattle.std.proofs.Common.{arith}
use Rattle.serde_json.specs.View.{view}
use Rattle.fs_cert_evidence.specs.Texts.{number}
use Rattle.fs_cert_json.proofs.Steps.{each_next, Is, is_array}
use Rattle.fs_cert_json.proofs.write_tree.numbers_value.Goals as goal

pub loop-number-preserved : goal.loop-number-preserved
loop-number-preserved c =
    each_next (Is number) c.args.numbers.now c.loop-number.number-index _ c.loop-number.values.items c.push.new.self.items c.from.result (omega arith)
    c.in_ok-push.ensures.items c.from.ensures c.loop-number.invariant

pub returns : goal.returns
returns c =
    is_array number (view c.from-2.result) c.loop-number.values.items c.args.numbers.now c.loop-number.number-index (omega arith) c.from-2.ensures c.loop-number.invariant
