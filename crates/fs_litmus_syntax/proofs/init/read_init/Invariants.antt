use Rattle.std.proofs.Common.{◌≡◌, drop}
use Rattle.fs_litmus_tokens.specs.Tokens.{views}
use Rattle.fs_litmus_tokens.specs.Sections.{scan}
use Rattle.fs_litmus_syntax.specs.Init.{next, start, position_of, entries_of}
use Rattle.fs_litmus_syntax.proofs.init.read_init.Given as goal

abbrev pub invariant-loop-i : goal.invariant-loop-i
invariant-loop-i l = scan next (record { position = position_of l.position; entries = entries_of l.entries.items }) (views (drop l.i l.tokens)) ≡ scan next start (views l.tokens)
