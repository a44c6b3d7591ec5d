use Rattle.std.proofs.Common.{◌≡◌, ◌-◌, ◌≤◌, ◌++◌, drop, length}
use Rattle.fs_litmus_syntax.specs.Body.{cells_of, flatten, rows_of, column_of}
use Rattle.fs_litmus_syntax.proofs.form.Form.column.Given as goal

abbrev pub invariant-loop-row : goal.invariant-loop-row
invariant-loop-row l = record {
  room : l.row ≤ length l.self.cells.items;
  whole : drop l.row (cells_of l.self.cells.items) ≡ flatten (rows_of l.self.columns (drop l.row (cells_of l.self.cells.items)));
  seen : cells_of l.cells.items ++ column_of l.number (rows_of l.self.columns (drop l.row (cells_of l.self.cells.items))) ≡ column_of l.number (rows_of l.self.columns (cells_of l.self.cells.items));
}

abbrev pub decreases-loop-row : goal.decreases-loop-row
decreases-loop-row l = length l.self.cells.items - l.row
