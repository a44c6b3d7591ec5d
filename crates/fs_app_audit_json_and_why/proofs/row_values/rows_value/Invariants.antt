use Rattle.std.proofs.Common.{◌≡◌, map, take}
use Rattle.serde_json.specs.View.{view}
use Rattle.fs_app_audit_json_and_why.specs.Objects.{row_value}
use Rattle.fs_app_audit_json_and_why.proofs.row_values.rows_value.Given as goal

-- those so far
abbrev pub invariant-loop-row : goal.invariant-loop-row
invariant-loop-row l = map view l.values.items ≡ map row_value (take l.row-index l.rows)
