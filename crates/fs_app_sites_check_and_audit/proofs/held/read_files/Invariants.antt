use Rattle.std.proofs.Common.{drop, take}
use Rattle.std.specs.List.{All}
use Rattle.fs_kinds.specs.declared.fault.Fault.{Fault}
use Rattle.fs_app_sites.specs.Sites.{IsSound}
use Rattle.fs_app_sites_check_and_audit.specs.Copies.{AreHeld, Held, IsFilesFault}
use Rattle.fs_app_sites_check_and_audit.proofs.held.read_files.Given as goal

-- what the files so far hold; and a fault of those that are left is one of all
abbrev pub invariant-loop-file : goal.invariant-loop-file
invariant-loop-file l = record {
  read : AreHeld (take l.file-index l.files) l.held.items;
  sound : All (λ (h : Held). IsSound h.asked) l.held.items;
  left : (f : Fault) → IsFilesFault (drop l.file-index l.files) f → IsFilesFault l.files f;
}
