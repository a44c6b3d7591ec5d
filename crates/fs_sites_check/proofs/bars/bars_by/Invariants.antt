use Rattle.std.proofs.Common.{take}
use Rattle.std.specs.List.{AllZip}
use Rattle.fs_sites_check.specs.Valid.{IsBarBy}
use Rattle.fs_sites_check.proofs.bars.bars_by.Given as goal

abbrev pub invariant-loop-index : goal.invariant-loop-index
invariant-loop-index l = AllZip (IsBarBy l.parts l.sites) (take l.index l.witnesses) l.bars.items
