use Rattle.std.proofs.Common.{take}
use Rattle.serde_json.specs.View.{items_view}
use Rattle.fs_app_sites_check_and_audit.specs.Kept.{KeepsTestWitness}
use Rattle.fs_app_sites_check_and_audit.specs.SitesFile.{IsTestWitness}
use Rattle.fs_cert_json.proofs.Lists.{AreKept}
use Rattle.fs_app_sites_check_and_audit.proofs.read.read_witnesses.Given as goal

-- the witnesses so far are kept of the items so far
abbrev pub invariant-loop-item : goal.invariant-loop-item
invariant-loop-item l = AreKept IsTestWitness KeepsTestWitness (items_view (take l.item-index l.item-items)) l.witnesses.items
