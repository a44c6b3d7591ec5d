use Rattle.std.proofs.Common.{◌≡◌, ◌++◌, flat_map, string_bytes}
use Rattle.std.specs.List.{range_with_len}
use Rattle.fs_model.specs.Printed.{ended, row}
use Rattle.fs_model.proofs.columns.write_rows.Given as goal

abbrev pub invariant-loop-at : goal.invariant-loop-at
invariant-loop-at l = string_bytes l.text ≡ string_bytes l.initial.text ++ flat_map (λ at. ended (row l.columns at)) (range_with_len 0 l.at)
