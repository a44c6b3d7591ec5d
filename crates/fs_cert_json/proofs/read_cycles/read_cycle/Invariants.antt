use Rattle.std.proofs.Common.{take}
use Rattle.serde_json.specs.View.{items_view}
use Rattle.fs_cert_evidence.specs.CertificateFile.{IsLink}
use Rattle.fs_cert_json.specs.Kept.{KeepsLink}
use Rattle.fs_cert_json.proofs.Lists.{AreKept}
use Rattle.fs_cert_json.proofs.read_cycles.read_cycle.Given as goal

-- the links so far are kept of the items so far
abbrev pub invariant-loop-item : goal.invariant-loop-item
invariant-loop-item l = AreKept IsLink KeepsLink (items_view (take l.item-index l.items)) l.links.items
