use Rattle.std.proofs.Common.{◌≡◌, drop}
use Rattle.std.specs.List.{list_any}
use Rattle.fs_cert_evidence.specs.Musts.{stores_such}
use Rattle.fs_region_refutation.specs.Views.{region_of}
use Rattle.fs_region_refutation.specs.inner.Each.{is_ending}
use Rattle.fs_region_refutation.proofs.endings.may_be_stored.Given as goal

abbrev pub invariant-loop-name : goal.invariant-loop-name
invariant-loop-name l =
    list_any (λ a. list_any (stores_such l.location (is_ending l.ending) a) ((region_of l.region).runs a.hart)) l.names
    ≡ list_any (λ a. list_any (stores_such l.location (is_ending l.ending) a) ((region_of l.region).runs a.hart)) (drop l.name-index l.names)
