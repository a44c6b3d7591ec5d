use Rattle.std.proofs.Common.{map}
use Rattle.fs_app_test.specs.Judging.{AreJudged}
use Rattle.fs_app_test.proofs.judging.parted.Given as goal

-- those so far
abbrev pub invariant-loop-file : goal.invariant-loop-file
invariant-loop-file l = AreJudged l.lines.items (map (λ test. test.items) l.tests.items)
