use Rattle.std.proofs.Common.{subst, arith}
use Rattle.std.proofs.lemmas.List.{take_all}
use Rattle.serde_json.specs.View.{view, items_view}
use Rattle.fs_cert_evidence.specs.Texts.{choice_value}
use Rattle.fs_cert_evidence.specs.WitnessFile.{EachItem, IsChoice}
use Rattle.fs_report.specs.inner.Written.{SaysChoice}
use Rattle.fs_report.proofs.Steps.{each_next, says_array}
use Rattle.fs_report.proofs.witness.choices_value.Goals as goal

pub loop-choice-preserved : goal.loop-choice-preserved
loop-choice-preserved c =
    each_next SaysChoice c.args.choices.now c.loop-choice.choice-index _ c.loop-choice.values.items c.push.new.self.items c.choice_value.result (omega arith)
    c.in_ok-push.ensures.items c.choice_value.ensures c.loop-choice.invariant

pub returns : goal.returns
returns c =
    let all = take_all c.loop-choice.choice-index c.args.choices.now (omega arith) in
    says_array choice_value IsChoice (view c.from.result) c.loop-choice.values.items c.args.choices.now c.from.ensures
    (subst (EachItem SaysChoice (items_view c.loop-choice.values.items)) all c.loop-choice.invariant)
