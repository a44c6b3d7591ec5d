use Rattle.std.proofs.Common.{take}
use Rattle.serde_json.specs.View.{items_view}
use Rattle.fs_cert_evidence.specs.WitnessFile.{EachItem}
use Rattle.fs_cert_json.specs.inner.Operands.{IsLinkInRange}
use Rattle.fs_cert_json.proofs.read_inferences.read_links.Given as goal

-- the links so far are those of the items so far
abbrev pub invariant-loop-item : goal.invariant-loop-item
invariant-loop-item l = EachItem IsLinkInRange (items_view (take l.item-index l.items)) l.links.items
