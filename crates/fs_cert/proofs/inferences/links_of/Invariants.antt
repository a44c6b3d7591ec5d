use Rattle.std.proofs.Common.{take}
use Rattle.std.specs.List.{AllZip}
use Rattle.fs_cert.specs.inner.Copies.{IsSameLink}
use Rattle.fs_cert.proofs.inferences.links_of.Given as goal

-- those so far are copied
abbrev pub invariant-loop-link : goal.invariant-loop-link
invariant-loop-link l = AllZip IsSameLink l.copy.items (take l.link-index l.links)
