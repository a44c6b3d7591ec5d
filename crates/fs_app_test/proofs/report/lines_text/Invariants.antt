use Rattle.std.proofs.Common.{◌≡◌, flat_map, take, string_bytes}
use Rattle.fs_app_test.specs.Report.{line_text}
use Rattle.fs_app_test.proofs.report.lines_text.Given as goal

-- the lines so far
abbrev pub invariant-loop-line : goal.invariant-loop-line
invariant-loop-line l = string_bytes l.text ≡ flat_map (line_text l.expects l.width) (take l.line-index l.lines)
