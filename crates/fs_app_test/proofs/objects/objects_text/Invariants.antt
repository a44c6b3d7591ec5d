use Rattle.std.proofs.Common.{◌≡◌, take, string_bytes}
use Rattle.fs_app_test.specs.Report.{json_text}
use Rattle.fs_app_test.proofs.objects.objects_text.Given as goal

-- the objects so far
abbrev pub invariant-loop-line : goal.invariant-loop-line
invariant-loop-line l = string_bytes l.text ≡ json_text l.expects (take l.line-index l.lines)
