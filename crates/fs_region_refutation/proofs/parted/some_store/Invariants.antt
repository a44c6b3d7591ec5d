use Rattle.std.proofs.Common.{◌≡◌, drop}
use Rattle.std.specs.List.{list_any}
use Rattle.fs_cert_evidence.specs.Regions.{stored_at}
use Rattle.fs_region_refutation.specs.Views.{accesses_at, region_of}
use Rattle.fs_region_refutation.proofs.parted.some_store.Given as goal

abbrev pub invariant-loop-name : goal.invariant-loop-name
invariant-loop-name l =
    list_any (λ a. list_any (accesses_at stored_at a.at l.location) ((region_of l.region).runs a.hart)) l.names
    ≡ list_any (λ a. list_any (accesses_at stored_at a.at l.location) ((region_of l.region).runs a.hart)) (drop l.name-index l.names)
