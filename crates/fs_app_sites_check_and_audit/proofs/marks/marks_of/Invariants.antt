use Rattle.std.proofs.Common.{◌≡◌, flat_map, map, take, string_bytes}
use Rattle.std.specs.List.{enumerate_from}
use Rattle.fs_app_sites_check_and_audit.specs.Marks.{file_marks}
use Rattle.fs_app_sites_check_and_audit.proofs.marks.marks_of.Given as goal

-- those of the files so far
abbrev pub invariant-loop-file : goal.invariant-loop-file
invariant-loop-file l =
    l.marks.items ≡ flat_map (file_marks (map string_bytes l.names)) (take l.file (enumerate_from 0 l.held))
