use Rattle.std.proofs.Common.{◌≡◌, ◌++◌, map, drop}
use Rattle.std.specs.List.{enumerate_from}
use Rattle.fs_app_sites.specs.Sites.{copy_value}
use Rattle.fs_app_sites_check_and_audit.specs.Copies.{written_of}
use Rattle.fs_app_sites_check_and_audit.proofs.held.written_of.Given as goal

-- with what is written at the copies that are left it is what is written at all
abbrev pub invariant-loop-number : goal.invariant-loop-number
invariant-loop-number l =
    l.written.items ++ map (written_of l.codes l.lines l.labels) (enumerate_from l.number (map copy_value (drop l.number l.copies)))
    ≡ map (written_of l.codes l.lines l.labels) (enumerate_from 0 (map copy_value l.copies))
