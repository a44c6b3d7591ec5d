use Rattle.std.proofs.Common.{◌≡◌, flat_map, take}
use Rattle.std.specs.List.{enumerate_from}
use Rattle.fs_app_audit_json_and_why.specs.Rows.{instruction_row}
use Rattle.fs_app_audit_json_and_why.proofs.rows.code_rows.Given as goal

-- those so far
abbrev pub invariant-loop-at : goal.invariant-loop-at
invariant-loop-at l =
    l.rows.items ≡ flat_map (instruction_row l.prices l.lines l.placement l.hart l.code) (take l.at (enumerate_from 0 l.code))
