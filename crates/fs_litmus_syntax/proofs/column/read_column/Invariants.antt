use Rattle.std.proofs.Common.{◌≡◌, ◌++◌, List, length}
use Rattle.fs_litmus_tokens.specs.Tokens.{Lined}
use Rattle.fs_litmus_syntax.specs.Columns.{column, cells_of}
use Rattle.fs_litmus_syntax.proofs.ColumnLemmas.{ColumnRead}
use Rattle.fs_litmus_syntax.proofs.column.read_column.Given as goal

abbrev pub invariant-loop-cell : goal.invariant-loop-cell
invariant-loop-cell l = record {
  seen : List (List Lined);
  split : column l.columns 0 (cells_of l.cells) ≡ seen ++ column l.columns 0 (cells_of l.rest);
  read : ColumnRead seen l.listing l.fault;
}

abbrev pub decreases-loop-cell : goal.decreases-loop-cell
decreases-loop-cell l = length l.rest
