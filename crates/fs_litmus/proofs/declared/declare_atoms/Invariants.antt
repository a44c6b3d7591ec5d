use Rattle.std.proofs.Common.{◌≡◌, drop, map}
use Rattle.fs_litmus_syntax.specs.Views.{atom_of}
use Rattle.fs_litmus.specs.Locations.{declared}
use Rattle.fs_litmus.proofs.declared.declare_atoms.Given as goal

abbrev pub invariant-loop-atom : goal.invariant-loop-atom
invariant-loop-atom l = declared l.names (map atom_of (drop l.atom-index l.atoms)) ≡ declared l.initial.names (map atom_of l.atoms)
