use Rattle.std.proofs.Common.{◌≡◌, map, take, string_bytes}
use Rattle.std.specs.List.{enumerate_from}
use Rattle.fs_model.specs.Printed.{cell}
use Rattle.fs_model.proofs.columns.column_of.Given as goal

abbrev pub invariant-loop-at : goal.invariant-loop-at
invariant-loop-at l = map string_bytes l.cells.items ≡ map (cell l.code) (take l.at (enumerate_from 0 l.code))
