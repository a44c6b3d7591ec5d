use Rattle.std.proofs.Common.{◌≡◌, map, drop, fold, string_bytes}
use Rattle.fs_app_sites.specs.Sites.{with_copies}
use Rattle.fs_app_sites_check_and_audit.specs.Asked.{names_in}
use Rattle.fs_app_sites_check_and_audit.proofs.asked.names_in.Given as goal

-- with the names of the files that are left they are those of all
abbrev pub invariant-loop-here : goal.invariant-loop-here
invariant-loop-here l =
    fold (λ names c. with_copies names c.copies) (map string_bytes l.names.items) (map (λ h. h.asked) (drop l.here-index l.held))
    ≡ names_in l.held
