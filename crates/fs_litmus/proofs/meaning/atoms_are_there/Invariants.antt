use Rattle.std.proofs.Common.{◌≡◌, drop, map}
use Rattle.fs_litmus_syntax.specs.Views.{atom_of}
use Rattle.fs_litmus.specs.Settings.{are_there}
use Rattle.fs_litmus.proofs.meaning.atoms_are_there.Given as goal

abbrev pub invariant-loop-atom : goal.invariant-loop-atom
invariant-loop-atom l = are_there l.columns l.names (map atom_of (drop l.atom-index l.atoms)) ≡ are_there l.columns l.names (map atom_of l.atoms)
