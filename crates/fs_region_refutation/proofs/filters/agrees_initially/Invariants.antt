use Rattle.std.proofs.Common.{◌≡◌, false, map, take}
use Rattle.std.specs.List.{list_any, enumerate_from}
use Rattle.fs_region_refutation.specs.inner.Asked.{begins_so}
use Rattle.fs_region_refutation.proofs.filters.agrees_initially.Given as goal

abbrev pub invariant-loop-number : goal.invariant-loop-number
invariant-loop-number l =
    list_any (begins_so l.load l.run.steps) (take l.number (enumerate_from 0 (map (λ location. location.word) l.location-items))) ≡ false
