use Rattle.std.proofs.Common.{take, map}
use Rattle.serde_json.specs.View.{items_view}
use Rattle.fs_cert_evidence.specs.CertificateFile.{IsItem}
use Rattle.fs_cert_evidence.specs.WitnessFile.{EachItem}
use Rattle.fs_cert_json.specs.Kept.{item_of, version_of}
use Rattle.fs_cert_json.proofs.read_tree.read_tree.Given as goal

-- the tree so far is that of the items so far
abbrev pub invariant-loop-item : goal.invariant-loop-item
invariant-loop-item l = EachItem (IsItem (version_of l.version)) (items_view (take l.item-index l.item-items)) (map item_of l.tree.items)
