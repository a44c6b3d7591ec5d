use Rattle.std.proofs.Common.{take}
use Rattle.std.specs.List.{AllZip}
use Rattle.fs_sites_check.specs.Valid.{IsRefutedWith}
use Rattle.fs_sites_check.proofs.refuted.first_unrefuted.Given as goal

abbrev pub invariant-loop-number : goal.invariant-loop-number
invariant-loop-number l = AllZip (IsRefutedWith l.placement) (take l.number l.parts) (take l.number l.cycles)
