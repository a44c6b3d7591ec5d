use Rattle.std.proofs.Common.{drop, take, ◌≢◌, ◌≡◌}
use Rattle.std.specs.List.{All, AllZip}
use Rattle.fs_kinds.specs.declared.fault.Fault.{Fault}
use Rattle.fs_app_sites.specs.Sites.{IsContentOf, IsFaultIn, IsFilesFault, IsSound}
use Rattle.fs_app_sites.proofs.ask.read_contents.Given as goal

-- what the files so far hold; and a fault of those that are left is one of all
abbrev pub invariant-loop-file : goal.invariant-loop-file
invariant-loop-file l = record {
  read : AllZip (IsContentOf l.tests) (take l.file-index l.tests.files) l.contents.items;
  sound : All IsSound l.contents.items;
  left : (f : Fault) → IsFaultIn l.tests (drop l.file-index l.tests.files) f → IsFilesFault l.tests f;
}
