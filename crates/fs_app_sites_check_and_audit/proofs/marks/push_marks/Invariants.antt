use Rattle.std.proofs.Common.{◌≡◌, ◌++◌, drop}
use Rattle.fs_app_sites_check_and_audit.specs.Marks.{marked}
use Rattle.fs_app_sites_check_and_audit.proofs.marks.push_marks.Given as goal

-- with the copies that are left they are all
abbrev pub invariant-loop-place : goal.invariant-loop-place
invariant-loop-place l =
    l.marks.items ++ marked l.file (drop l.place-index l.places) l.written
    ≡ l.initial.marks.items ++ marked l.file l.places l.fn.written
