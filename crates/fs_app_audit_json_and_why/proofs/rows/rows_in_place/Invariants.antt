use Rattle.std.proofs.Common.{◌≡◌, flat_map, take}
use Rattle.std.specs.List.{enumerate_from}
use Rattle.fs_app_audit_json_and_why.specs.Rows.{code_rows}
use Rattle.fs_app_audit_json_and_why.proofs.rows.rows_in_place.Given as goal

-- those so far
abbrev pub invariant-loop-hart : goal.invariant-loop-hart
invariant-loop-hart l = l.rows.items ≡ flat_map (code_rows l.prices l.lines l.placement) (take l.hart (enumerate_from 0 l.codes))
