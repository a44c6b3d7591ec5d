use Rattle.std.proofs.Common.{◌≡◌, map, take, string_bytes}
use Rattle.serde_json.specs.View.{view}
use Rattle.fs_app_sites_check_and_audit.specs.Objects.{line_value}
use Rattle.fs_app_sites_check_and_audit.proofs.objects.lines_value.Given as goal

-- those so far
abbrev pub invariant-loop-line : goal.invariant-loop-line
invariant-loop-line l =
    map view l.values.items ≡ map (line_value l.files (map string_bytes l.names)) (take l.line-index l.lines)
