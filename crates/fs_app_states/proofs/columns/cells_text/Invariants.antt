use Rattle.std.proofs.Common.{◌≡◌, ◌++◌, length, map, string_bytes}
use Rattle.std.specs.List.{zip}
use Rattle.fs_app_states.specs.Names.{cell_text}
use Rattle.fs_app_states.proofs.columns.cells_text.Given as goal

-- the cells so far, and those to come
abbrev pub invariant-loop-column : goal.invariant-loop-column
invariant-loop-column l =
    map string_bytes l.cells.items ++ map (cell_text l.locations) (zip l.columns l.words)
    ≡ map (cell_text l.locations) (zip l.fn.columns l.fn.words)

abbrev pub decreases-loop-column : goal.decreases-loop-column
decreases-loop-column l = length l.columns
