use Rattle.std.proofs.Common.{take}
use Rattle.std.specs.List.{AllZip}
use Rattle.fs_cert.specs.inner.Copies.{AreCopiedChoices}
use Rattle.fs_cert.proofs.copied.lists_of.Given as goal

-- those so far are copied
abbrev pub invariant-loop-choices : goal.invariant-loop-choices
invariant-loop-choices l = AllZip AreCopiedChoices l.copy.items (take l.choices-index l.lists)
