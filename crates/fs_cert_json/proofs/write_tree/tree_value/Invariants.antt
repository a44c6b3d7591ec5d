use Rattle.std.proofs.Common.{take}
use Rattle.serde_json.specs.View.{items_view}
use Rattle.fs_cert_evidence.specs.WitnessFile.{EachItem}
use Rattle.fs_cert_json.specs.inner.Written.{kept_item_value}
use Rattle.fs_cert_json.proofs.Steps.{Is}
use Rattle.fs_cert_json.proofs.write_tree.tree_value.Given as goal

-- the values so far are what is written for the items so far
abbrev pub invariant-loop-item : goal.invariant-loop-item
invariant-loop-item l = EachItem (Is kept_item_value) (items_view l.values.items) (take l.item-index l.tree)
