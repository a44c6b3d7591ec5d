use Rattle.std.proofs.Common.{take}
use Rattle.std.specs.List.{AllZip}
use Rattle.fs_cert.specs.inner.Copies.{IsCopiedChoice}
use Rattle.fs_cert.proofs.copied.choices_of.Given as goal

-- those so far are copied
abbrev pub invariant-loop-choice : goal.invariant-loop-choice
invariant-loop-choice l = AllZip IsCopiedChoice l.copy.items (take l.choice-index l.choices)
