use Rattle.std.proofs.Common.{◌≢◌, IfOk, IfErr, string_bytes, subst}
use Rattle.fs_kinds.specs.declared.fault.Fault.TheVariants.{Memory}
use Rattle.fs_model.specs.declared.test.Test.{Test}
use Rattle.fs_app_test.specs.SaidVerdicts.{IsTestedAs, IsFaultOf, witness_in}
use Rattle.fs_app_test.proofs.judged.judge.Goals as goal

pub returns-clause-ok : goal.returns-clause-ok
returns-clause-ok c =
    subst (λ (t : Test). IfOk c.judge_test.result (λ said. IsTestedAs t said.kind (string_bytes said.why) (witness_in said.witness)))
    c.in_ok-test.ensures c.judge_test.ensures.ok

pub returns-clause-err : goal.returns-clause-err
returns-clause-err c =
    subst (λ (t : Test). IfErr c.judge_test.result (λ f. f ≢ Memory → IsFaultOf t f))
    c.in_ok-test.ensures c.judge_test.ensures.err
