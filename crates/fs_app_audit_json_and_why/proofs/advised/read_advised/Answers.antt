use Rattle.std.proofs.Common.{◌∙◌, sym, subst}
use Rattle.fs_model.specs.declared.test.Test.{Test}
use Rattle.fs_model.specs.Test.{IsSame, IsTest}
use Rattle.fs_app_audit_json_and_why.specs.Advised.{as_advised}
use Rattle.fs_app_audit_json_and_why.proofs.AsAdvised.{same_advised, test_advised}
use Rattle.fs_app_audit_json_and_why.proofs.advised.read_advised.Goals as goal

pub returns-clause-same : goal.returns-clause-same
returns-clause-same c = λ t reads.
    let p = c.args.placement.now in
    subst (λ (u : Test). IsSame u (as_advised t p)) (sym (c.in_ok-new.ensures.ok ∙ c.in_ok-made.ensures))
    (same_advised _ t p (c.in_ok-test.ensures.once t reads))

pub returns-clause-test : goal.returns-clause-test
returns-clause-test c =
    subst (λ (u : Test). IsTest u) (sym (c.in_ok-new.ensures.ok ∙ c.in_ok-made.ensures))
    (test_advised _ c.args.placement.now c.in_ok-test.ensures.test)
