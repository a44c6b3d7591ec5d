use Rattle.std.proofs.Common.{◌≡◌, take}
use Rattle.fs_litmus_tokens.specs.Tokens.{views}
use Rattle.fs_app_error_messages.specs.Atoms.{ends_open}
use Rattle.fs_app_error_messages.proofs.BadAtoms.{NoneBefore}
use Rattle.fs_app_error_messages.proofs.atoms.bad_atom.Given as goal

abbrev pub invariant-loop-i : goal.invariant-loop-i
invariant-loop-i l = record {
  same : l.is_open ≡ ends_open (take l.i (views l.tokens));
  before : NoneBefore l.fn.columns l.tokens l.i;
}
