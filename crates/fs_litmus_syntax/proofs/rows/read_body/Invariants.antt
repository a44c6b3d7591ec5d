use Rattle.std.proofs.Common.{◌≡◌, ◌-◌, drop}
use Rattle.fs_litmus_tokens.specs.Tokens.{views}
use Rattle.fs_litmus_tokens.specs.Sections.{scan}
use Rattle.fs_litmus_syntax.specs.Body.{cells_of}
use Rattle.fs_litmus_syntax.specs.Rows.{next, start, position_of, IsFine}
use Rattle.fs_litmus_syntax.proofs.rows.read_body.Given as goal

abbrev pub invariant-loop-i : goal.invariant-loop-i
invariant-loop-i l = record {
  fine : IsFine l.i l.position;
  same : scan (next (l.columns - 1)) (record { position = position_of l.tokens l.i l.position; cells = cells_of l.cells.items }) (views (drop l.i l.tokens)) ≡ scan (next (l.columns - 1)) start (views l.tokens);
}
