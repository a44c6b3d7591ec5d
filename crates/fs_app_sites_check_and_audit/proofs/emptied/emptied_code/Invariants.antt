use Rattle.std.proofs.Common.{◌≡◌, [], map, take}
use Rattle.std.specs.List.{enumerate_from}
use Rattle.fs_model_laws.specs.InPlace.{followed_instr}
use Rattle.fs_app_sites.specs.Sites.{copy_value}
use Rattle.fs_app_sites_check_and_audit.specs.Copies.{is_copied}
use Rattle.fs_app_sites_check_and_audit.proofs.emptied.emptied_code.Given as goal

-- the instructions so far
abbrev pub invariant-loop-at : goal.invariant-loop-at
invariant-loop-at l =
    l.made.items ≡ map (followed_instr (is_copied (map copy_value l.copies)) [] l.hart) (take l.at (enumerate_from 0 l.code))
