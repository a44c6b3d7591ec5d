use Rattle.std.proofs.Common.{◌≡◌, flat_map}
use Rattle.std.specs.List.{range_with_len}
use Rattle.fs_app_sites_check_and_audit.specs.Lines.{advised, site_lines}
use Rattle.fs_app_sites_check_and_audit.proofs.lines.lines_of.Given as goal

-- those of the sites so far
abbrev pub invariant-loop-site : goal.invariant-loop-site
invariant-loop-site l =
    l.lines.items
    ≡ flat_map (λ site. site_lines l.marks site (advised l.kept l.marks l.entries site)) (range_with_len 0 l.site)
