use Rattle.std.proofs.Common.{take}
use Rattle.std.specs.List.{AllZip}
use Rattle.fs_cert.specs.inner.Copies.{IsCopiedCycle}
use Rattle.fs_cert.proofs.cycles.listed_of.Given as goal

-- those so far are copied
abbrev pub invariant-loop-links : goal.invariant-loop-links
invariant-loop-links l = AllZip IsCopiedCycle l.copy.items (take l.links-index l.cycles)
