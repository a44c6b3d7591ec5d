use Rattle.std.proofs.Common.{◌≡◌, take}
use Rattle.fs_app_test.specs.Report.{width}
use Rattle.fs_app_test.proofs.report.width.Given as goal

-- of the lines so far
abbrev pub invariant-loop-line : goal.invariant-loop-line
invariant-loop-line l = l.most ≡ width (take l.line-index l.lines)
