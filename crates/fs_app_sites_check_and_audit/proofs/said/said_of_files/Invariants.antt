use Rattle.std.proofs.Common.{drop, take}
use Rattle.fs_kinds.specs.declared.fault.Fault.{Fault}
use Rattle.fs_app_sites_check_and_audit.specs.Audited.{AreSaid, IsSaidFault}
use Rattle.fs_app_sites_check_and_audit.proofs.said.said_of_files.Given as goal

-- what is said of the files so far; and a fault of those that are left is one of all
abbrev pub invariant-loop-file : goal.invariant-loop-file
invariant-loop-file l = record {
  read : AreSaid (take l.file-index l.files) l.kinds.items;
  left : (f : Fault) → IsSaidFault (drop l.file-index l.files) f → IsSaidFault l.files f;
}
