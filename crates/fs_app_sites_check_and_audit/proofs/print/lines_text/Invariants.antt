use Rattle.std.proofs.Common.{◌≡◌, flat_map, map, take, string_bytes}
use Rattle.fs_app_sites_check_and_audit.specs.Printed.{line_text}
use Rattle.fs_app_sites_check_and_audit.proofs.print.lines_text.Given as goal

-- those so far
abbrev pub invariant-loop-line : goal.invariant-loop-line
invariant-loop-line l =
    string_bytes l.text ≡ flat_map (line_text l.files (map string_bytes l.names)) (take l.line-index l.lines)
