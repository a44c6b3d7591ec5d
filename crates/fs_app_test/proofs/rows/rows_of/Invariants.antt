use Rattle.std.proofs.Common.{◌≡◌, flat_map, map, take, Some}
use Rattle.fs_app_test.specs.Rows.{read_row, said_by}
use Rattle.fs_app_test.proofs.rows.rows_of.Given as goal

-- the rows of the lines so far
abbrev pub invariant-loop-index : goal.invariant-loop-index
invariant-loop-index l = map (λ row. Some (read_row row)) l.rows.items ≡ flat_map (λ line. said_by line.now) (take l.index l.lines)
