use Rattle.std.proofs.Common.{◌≡◌, true, [], take}
use Rattle.std.specs.List.{list_all}
use Rattle.fs_model.specs.Preserved.{Rule8}
use Rattle.fs_cert_evidence.specs.Regions.{Region}
use Rattle.fs_region_refutation.specs.inner.Asked.{is_ordered_in}
use Rattle.fs_region_refutation.proofs.musts.all_pair.Given as goal

abbrev pub invariant-loop-run : goal.invariant-loop-run
invariant-loop-run l = (region : Region) → list_all (is_ordered_in region [] Rule8 l.load l.store) (take l.run-index l.runs) ≡ true
