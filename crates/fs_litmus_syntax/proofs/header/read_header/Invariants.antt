use Rattle.std.proofs.Common.{◌≡◌, ◌≤◌, drop}
use Rattle.fs_litmus_tokens.specs.Tokens.{views}
use Rattle.fs_litmus_tokens.specs.Sections.{scan}
use Rattle.fs_litmus_syntax.specs.Header.{next, column_of}
use Rattle.fs_litmus_syntax.specs.declared.header.Position.TheVariants.{BeforeWord}
use Rattle.fs_litmus_syntax.proofs.header.read_header.Given as goal

abbrev pub invariant-loop-i : goal.invariant-loop-i
invariant-loop-i l = record {
  small : column_of l.position ≤ l.i;
  same : scan next l.position (views (drop l.i l.tokens)) ≡ scan next (BeforeWord 0) (views l.tokens);
}
