use Rattle.std.proofs.Common.{◌≡◌, map, take, string_bytes}
use Rattle.fs_app_sites_check_and_audit.specs.Printed.{width}
use Rattle.fs_app_sites_check_and_audit.proofs.print.width.Given as goal

-- of the names so far
abbrev pub invariant-loop-name : goal.invariant-loop-name
invariant-loop-name l = l.most ≡ width (map string_bytes (take l.name-index l.names))
