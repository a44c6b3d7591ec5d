use Rattle.std.proofs.Common.{◌≡◌, length}
use Rattle.fs_litmus.specs.SiteLabels.{clash, all_of}
use Rattle.fs_litmus.proofs.site_reader.clash.Given as goal

abbrev pub invariant-loop-rest : goal.invariant-loop-rest
invariant-loop-rest l = clash (all_of l.rest) ≡ clash (all_of l.sites)

abbrev pub decreases-loop-rest : goal.decreases-loop-rest
decreases-loop-rest l = length l.rest
