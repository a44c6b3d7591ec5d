use Rattle.std.proofs.Common.{subst, ◌∙◌, arith}
use Rattle.std.proofs.lemmas.List.{take_all}
use Rattle.serde_json.specs.View.{view, items_view}
use Rattle.fs_cert_evidence.specs.WitnessFile.{EachItem, IsArrayOf, IsChoice}
use Rattle.fs_report.specs.inner.Written.{SaysChoices, choices_value}
use Rattle.fs_report.proofs.Steps.{each_next, says_array}
use Rattle.fs_report.proofs.witness.lists_value.Goals as goal

pub loop-choices-preserved : goal.loop-choices-preserved
loop-choices-preserved c =
    each_next SaysChoices c.args.lists.now c.loop-choices.choices-index c.choices-item.result c.loop-choices.values.items c.push.new.self.items c.in_ok-choices_value.field-0
    (omega arith) c.in_ok-push.ensures.items
    (subst (SaysChoices (view c.in_ok-choices_value.field-0)) (c.as_slice.ensures ∙ c.choices-item.is) c.in_ok-choices_value.ensures)
    c.loop-choices.invariant

pub returns : goal.returns
returns c =
    let all = take_all c.loop-choices.choices-index c.args.lists.now (omega arith) in
    says_array choices_value (IsArrayOf IsChoice) (view c.from.result) c.loop-choices.values.items c.args.lists.now c.from.ensures
    (subst (EachItem SaysChoices (items_view c.loop-choices.values.items)) all c.loop-choices.invariant)
