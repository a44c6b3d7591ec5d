use Rattle.std.proofs.Common.{◌≡◌, map, take}
use Rattle.serde_json.specs.View.{view}
use Rattle.fs_app_sites_check_and_audit.specs.Objects.{row_value}
use Rattle.fs_app_sites_check_and_audit.proofs.objects.rows_value.Given as goal

-- those so far
abbrev pub invariant-loop-row : goal.invariant-loop-row
invariant-loop-row l = map view l.values.items ≡ map (row_value l.files) (take l.row-index l.rows)
