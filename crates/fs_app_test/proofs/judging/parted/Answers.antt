use Rattle.std.proofs.Common.{[], ◌∷◌, map}
use Rattle.std.proofs.lemmas.List.{map-append}
use Rattle.fs_app_test.specs.Judging.{IsJudged}
use Rattle.fs_app_test.proofs.Paired.{one_more}
use Rattle.fs_app_test.proofs.judging.parted.Goals as goal

pub loop-file-preserved : goal.loop-file-preserved
loop-file-preserved c =
    rw (c.in_ok-push.ensures.items, c.in_ok-push-2.ensures.items, map-append (λ test. test.items) c.loop-file.tests.items (c.file.inside.test ∷ []))
    (one_more IsJudged c.loop-file.lines.items (map (λ test. test.items) c.loop-file.tests.items)
    c.file.inside.line c.file.inside.test.items c.loop-file.invariant c.file.invariant)
