use Rattle.std.proofs.Common.{take}
use Rattle.std.specs.List.{AllZip}
use Rattle.fs_cert.specs.inner.Copies.{IsCopiedName}
use Rattle.fs_cert.proofs.copied.names_of.Given as goal

-- those so far are copied
abbrev pub invariant-loop-name : goal.invariant-loop-name
invariant-loop-name l = AllZip IsCopiedName l.copy.items (take l.name-index l.names)
