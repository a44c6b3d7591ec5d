use Rattle.std.proofs.Common.{◌≡◌, take}
use Rattle.fs_app_why.specs.Tables.{width}
use Rattle.fs_app_why.proofs.table.width.Given as goal

-- of the rows so far
abbrev pub invariant-loop-row : goal.invariant-loop-row
invariant-loop-row l = l.most ≡ width l.column (take l.row-index l.rows)
