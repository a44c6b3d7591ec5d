use Rattle.std.proofs.Common.{◌≡◌, List, map, take}
use Rattle.serde_json.specs.View.{items_view}
use Rattle.fs_kinds.specs.declared.reason.OperationName.{OperationName}
use Rattle.fs_cert_evidence.specs.WitnessFile.{EachItem, IsName, in_range}
use Rattle.fs_cert_evidence.proofs.witness.read_order.Given as goal

-- the operations so far are those that the items so far name
abbrev pub invariant-loop-item : goal.invariant-loop-item
invariant-loop-item l = (names : List OperationName) × EachItem IsName (items_view (take l.item-index l.item-items)) names × (l.names.items ≡ map in_range names)
