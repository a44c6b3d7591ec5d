use Rattle.std.proofs.Common.{List, ◌++◌, map, take}
use Rattle.std.specs.List.{AllZip}
use Rattle.fs_app_states.specs.declared.log.Seen.{Seen}
use Rattle.fs_app_states.specs.Rows.{IsRow}
use Rattle.fs_app_states.specs.Tallies.{counted}
use Rattle.fs_app_states.proofs.rows.push_rows.Given as goal

-- the rows so far
abbrev pub invariant-loop-seen : goal.invariant-loop-seen
invariant-loop-seen l = (states : List Seen) → AllZip (IsRow l.test l.columns) states (map counted l.initial.rows.items)
    → AllZip (IsRow l.test l.columns) (states ++ take l.seen-index l.seen-items) (map counted l.rows.items)
