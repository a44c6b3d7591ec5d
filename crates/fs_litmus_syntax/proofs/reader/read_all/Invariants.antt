use Rattle.std.proofs.Common.{◌≡◌, [], drop, map}
use Rattle.fs_litmus_tokens.specs.Tokens.{views}
use Rattle.fs_litmus_syntax.specs.Machine.{read, start}
use Rattle.fs_litmus_syntax.specs.Limited.{limited}
use Rattle.fs_litmus_syntax.specs.Views.{atom_of, reader_of}
use Rattle.fs_litmus_syntax.proofs.Below.{Small}
use Rattle.fs_litmus_syntax.proofs.reader.read_all.Given as goal

abbrev pub invariant-loop-i : goal.invariant-loop-i
invariant-loop-i l = record {
  same : read limited (reader_of l.reader) (map atom_of l.atoms.items) (views (drop l.i l.tokens)) ≡ read limited start [] (views l.tokens);
  small : Small l.i (reader_of l.reader);
}
