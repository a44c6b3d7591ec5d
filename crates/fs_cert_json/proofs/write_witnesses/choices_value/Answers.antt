use Rattle.std.proofs.Common.{arith}
use Rattle.serde_json.specs.View.{view}
use Rattle.fs_cert_evidence.specs.Texts.{choice_value}
use Rattle.fs_cert_json.proofs.Steps.{each_next, Is, is_array}
use Rattle.fs_cert_json.proofs.write_witnesses.choices_value.Goals as goal

pub loop-choice-preserved : goal.loop-choice-preserved
loop-choice-preserved c =
    each_next (Is choice_value) c.args.choices.now c.loop-choice.choice-index _ c.loop-choice.values.items c.push.new.self.items c.choice_value.result (omega arith)
    c.in_ok-push.ensures.items c.choice_value.ensures c.loop-choice.invariant

pub returns : goal.returns
returns c =
    is_array choice_value (view c.from.result) c.loop-choice.values.items c.args.choices.now c.loop-choice.choice-index (omega arith) c.from.ensures c.loop-choice.invariant
