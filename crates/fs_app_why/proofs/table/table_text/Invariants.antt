use Rattle.std.proofs.Common.{◌≡◌, flat_map, take, string_bytes}
use Rattle.fs_app_why.specs.Tables.{row_text}
use Rattle.fs_app_why.proofs.table.table_text.Given as goal

-- the rows so far
abbrev pub invariant-loop-row : goal.invariant-loop-row
invariant-loop-row l = string_bytes l.text ≡ flat_map (row_text l.rows) (take l.row-index l.rows)
