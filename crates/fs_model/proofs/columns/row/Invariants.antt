use Rattle.std.proofs.Common.{◌≡◌, [], map, take, slice_index_or}
use Rattle.fs_model.proofs.columns.row.Given as goal

abbrev pub invariant-loop-column : goal.invariant-loop-column
invariant-loop-column l = map (λ x. x.now) l.cells.items ≡ map (λ cells. slice_index_or cells l.at []) (take l.column-index l.columns)
