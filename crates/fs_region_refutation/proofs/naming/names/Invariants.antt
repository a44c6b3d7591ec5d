use Rattle.std.proofs.Common.{◌≡◌, take, flat_map}
use Rattle.std.specs.List.{enumerate_from}
use Rattle.fs_cert_evidence.specs.Regions.{names_in}
use Rattle.fs_region_refutation.proofs.naming.names.Given as goal

abbrev pub invariant-loop-hart : goal.invariant-loop-hart
invariant-loop-hart l = l.found.items ≡ flat_map names_in (take l.hart (enumerate_from 0 l.test.codes))
