use Rattle.std.proofs.Common.{◌≡◌, ◌++◌, map, drop, string_bytes}
use Rattle.serde_json.specs.View.{view}
use Rattle.fs_app_sites.specs.Printed.{sites_values}
use Rattle.fs_app_sites.proofs.report.push_sites.Given as goal

-- with the objects of the sites that are left they are all
abbrev pub invariant-loop-entry : goal.invariant-loop-entry
invariant-loop-entry l =
    map view l.values.items ++ sites_values (drop l.entry-index l.entries) (map string_bytes l.names)
    ≡ map view l.initial.values.items ++ sites_values l.entries (map string_bytes l.fn.names)
