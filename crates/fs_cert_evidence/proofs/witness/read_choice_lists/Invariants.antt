use Rattle.std.proofs.Common.{take}
use Rattle.serde_json.specs.View.{items_view}
use Rattle.fs_cert_evidence.specs.WitnessFile.{EachItem, IsArrayOf, IsChoice}
use Rattle.fs_cert_evidence.proofs.witness.read_choice_lists.Given as goal

-- the lists so far are those of the items so far
abbrev pub invariant-loop-item : goal.invariant-loop-item
invariant-loop-item l = EachItem (IsArrayOf IsChoice) (items_view (take l.item-index l.item-items)) l.lists.items
