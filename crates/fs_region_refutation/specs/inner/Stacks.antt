-- Regions that are open, on a stack.
use Rattle.std.specs.Prelude.{List, reverse}
use Rattle.fs_cert_evidence.specs.Regions.{Region}
use Rattle.fs_region_refutation.specs.declared.region.Region.{Region as CodeRegion}
use Rattle.fs_region_refutation.specs.Views.{regions_of}

-- the regions on a stack, of which the last one is on top
abbrev pub stacked : List CodeRegion → List Region
stacked stack = regions_of (reverse stack)
