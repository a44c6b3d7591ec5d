use Rattle.std.proofs.Common.{◌≡◌}
use Rattle.fs_litmus_syntax.specs.Machine.{denied}
use Rattle.fs_litmus_syntax.specs.Limited.{limited}
use Rattle.fs_litmus_syntax.specs.Views.{subformula_of}
use Rattle.fs_litmus_syntax.proofs.layer.denied.Given as goal

abbrev pub invariant-loop-i : goal.invariant-loop-i
invariant-loop-i l = subformula_of l.subformula ≡ denied limited.deny l._i (subformula_of l.fn.unit)
