use Rattle.std.proofs.Common.{take}
use Rattle.serde_json.specs.View.{items_view}
use Rattle.fs_cert_evidence.specs.CertificateFile.{IsCycleValue}
use Rattle.fs_cert_json.specs.Kept.{KeepsCycle}
use Rattle.fs_cert_json.proofs.Lists.{AreKept}
use Rattle.fs_cert_json.proofs.read_cycles.read_listed.Given as goal

-- the cycles so far are kept of the items so far
abbrev pub invariant-loop-item : goal.invariant-loop-item
invariant-loop-item l = AreKept IsCycleValue KeepsCycle (items_view (take l.item-index l.item-items)) l.cycles.items
