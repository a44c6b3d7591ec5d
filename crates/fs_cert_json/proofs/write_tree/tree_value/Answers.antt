use Rattle.std.proofs.Common.{ap, subst, ◌∙◌, arith}
use Rattle.serde_json.specs.View.{view}
use Rattle.fs_cert_evidence.specs.Texts.{array_of}
use Rattle.fs_cert_json.specs.inner.Written.{kept_item_value}
use Rattle.fs_cert_json.proofs.Steps.{each_next, Is, is_array, map_items}
use Rattle.fs_cert_json.proofs.write_tree.tree_value.Goals as goal

pub loop-item-preserved : goal.loop-item-preserved
loop-item-preserved c =
    each_next (Is kept_item_value) c.args.tree.now c.loop-item.item-index c.item-item.result c.loop-item.values.items c.push.new.self.items c.in_ok-item_value.field-0 (omega arith)
    c.in_ok-push.ensures.items (subst (Is kept_item_value (view c.in_ok-item_value.field-0)) c.item-item.is c.in_ok-item_value.ensures) c.loop-item.invariant

pub returns : goal.returns
returns c =
    is_array kept_item_value (view c.from.result) c.loop-item.values.items c.args.tree.now c.loop-item.item-index (omega arith) c.from.ensures c.loop-item.invariant ∙ ap array_of (map_items c.args.tree.now)
