use Rattle.std.proofs.Common.{map, take}
use Rattle.std.specs.List.{AllZip}
use Rattle.fs_app_states.specs.Compared.{states_seen}
use Rattle.fs_app_states.specs.Rows.{IsRow}
use Rattle.fs_app_states.specs.Tallies.{counted}
use Rattle.fs_app_states.proofs.rows.rows_of.Given as goal

-- those of the blocks so far
abbrev pub invariant-loop-block : goal.invariant-loop-block
invariant-loop-block l =
    AllZip (IsRow l.test l.columns) (states_seen (take l.block-index l.log) l.name) (map counted l.rows.items)
