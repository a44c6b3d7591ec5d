use Rattle.std.proofs.Common.{◌≡◌, drop}
use Rattle.std.specs.List.{list_any}
use Rattle.fs_cert_evidence.specs.Regions.{stored_at}
use Rattle.fs_cert_evidence.specs.Musts.{must_be}
use Rattle.fs_region_refutation.specs.Views.{region_of}
use Rattle.fs_region_refutation.proofs.endings.must_be_stored.Given as goal

abbrev pub invariant-loop-name : goal.invariant-loop-name
invariant-loop-name l =
    list_any (λ a. must_be l.basis (region_of l.region) stored_at a l.location) l.names
    ≡ list_any (λ a. must_be l.basis (region_of l.region) stored_at a l.location) (drop l.name-index l.names)
