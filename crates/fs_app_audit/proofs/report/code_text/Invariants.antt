use Rattle.std.proofs.Common.{◌≡◌, flat_map, take, string_bytes}
use Rattle.std.specs.List.{enumerate_from}
use Rattle.fs_app_audit.specs.Report.{instruction_text}
use Rattle.fs_app_audit.proofs.report.code_text.Given as goal

-- what is said so far
abbrev pub invariant-loop-at : goal.invariant-loop-at
invariant-loop-at l =
    string_bytes l.text ≡ flat_map (instruction_text l.lines l.placement l.hart l.code) (take l.at (enumerate_from 0 l.code))
