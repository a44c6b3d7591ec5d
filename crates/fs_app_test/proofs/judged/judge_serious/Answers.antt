use Rattle.std.proofs.Common.{inr}
use Rattle.std.specs.Arc.{arc_value}
use Rattle.std.proofs.lemmas.Result.{IfErr-weaker}
use Rattle.fs_app_test.proofs.judged.judge_serious.Goals as goal

pub returns-clause-err : goal.returns-clause-err
returns-clause-err c =
    IfErr-weaker c.said_of.result _ _ (λ fault h other. inr (h other))
    (c.said_of.ensures.err (arc_value c.args.test.now) c.in_ok-verdict.ensures.ok c.requires.settled)
