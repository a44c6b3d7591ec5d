use Rattle.std.proofs.Common.{◌≡◌, [], map, take}
use Rattle.std.specs.List.{enumerate_from}
use Rattle.fs_model_laws.specs.InPlace.{followed_code}
use Rattle.fs_app_sites.specs.Sites.{copy_value}
use Rattle.fs_app_sites_check_and_audit.specs.Copies.{is_copied}
use Rattle.fs_app_sites_check_and_audit.proofs.emptied.emptied_codes.Given as goal

-- the codes so far
abbrev pub invariant-loop-hart : goal.invariant-loop-hart
invariant-loop-hart l =
    l.made.items ≡ map (followed_code (is_copied (map copy_value l.copies)) []) (take l.hart (enumerate_from 0 l.codes))
