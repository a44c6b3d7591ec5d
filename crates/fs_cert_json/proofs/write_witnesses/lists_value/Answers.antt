use Rattle.std.proofs.Common.{subst, ◌∙◌, arith}
use Rattle.serde_json.specs.View.{view}
use Rattle.fs_cert_json.specs.inner.Written.{choices_value}
use Rattle.fs_cert_json.proofs.Steps.{each_next, Is, is_array}
use Rattle.fs_cert_json.proofs.write_witnesses.lists_value.Goals as goal

pub loop-choices-preserved : goal.loop-choices-preserved
loop-choices-preserved c =
    each_next (Is choices_value) c.args.lists.now c.loop-choices.choices-index c.choices-item.result c.loop-choices.values.items c.push.new.self.items c.in_ok-choices_value.field-0 (omega arith)
    c.in_ok-push.ensures.items (subst (Is choices_value (view c.in_ok-choices_value.field-0)) (c.as_slice.ensures ∙ c.choices-item.is) c.in_ok-choices_value.ensures) c.loop-choices.invariant

pub returns : goal.returns
returns c =
    is_array choices_value (view c.from.result) c.loop-choices.values.items c.args.lists.now c.loop-choices.choices-index (omega arith) c.from.ensures c.loop-choices.invariant
