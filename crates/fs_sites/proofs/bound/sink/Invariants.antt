use Rattle.std.proofs.Common.{◌≡◌, take}
use Rattle.fs_sites.specs.Sinking.{sunk}
use Rattle.fs_sites.proofs.bound.sink.Given as goal

abbrev pub invariant-loop-site : goal.invariant-loop-site
invariant-loop-site l = l.offers ≡ sunk l.less (take l.site l.bar) l.initial.offers
