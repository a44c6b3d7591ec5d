use Rattle.std.proofs.Common.{◌≡◌, ◌++◌, map, drop, string_bytes}
use Rattle.fs_app_sites.specs.Printed.{sites_lines}
use Rattle.fs_app_sites.proofs.report.write_sites.Given as goal

-- with the lines of the sites that are left it is the text with all
abbrev pub invariant-loop-entry : goal.invariant-loop-entry
invariant-loop-entry l =
    string_bytes l.text ++ sites_lines l.is_alone (drop l.entry-index l.entries) (map string_bytes l.names)
    ≡ string_bytes l.initial.text ++ sites_lines l.is_alone l.entries (map string_bytes l.fn.names)
