use Rattle.std.proofs.Common.{◌≡◌, flat_map, take, string_bytes}
use Rattle.fs_app_sites_check_and_audit.specs.Printed.{row_text}
use Rattle.fs_app_sites_check_and_audit.proofs.print.rows_text.Given as goal

-- those so far
abbrev pub invariant-loop-row : goal.invariant-loop-row
invariant-loop-row l = string_bytes l.text ≡ flat_map (row_text l.files) (take l.row-index l.rows)
