use Rattle.std.proofs.Common.{inl, inr}
use Rattle.std.proofs.lemmas.Result.{IfOk-weaker}
use Rattle.fs_app_test.proofs.tested.test_bytes.Goals as goal

pub returns-in-Ok-clause-ok : goal.returns-in-Ok-clause-ok
returns-in-Ok-clause-ok c = inl c.in-Ok.ensures.ok

pub returns-in-Err-clause-ok : goal.returns-in-Err-clause-ok
returns-in-Err-clause-ok c =
    IfOk-weaker c.faulty.result _ _ (λ said names. inr (c.in-Err.fault, c.in-Err.ensures.fault, names)) c.faulty.ensures.ok
