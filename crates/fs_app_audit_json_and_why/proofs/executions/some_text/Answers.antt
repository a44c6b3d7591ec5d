use Rattle.std.proofs.Common.{IfOk, string_bytes, subst}
use Rattle.fs_model.specs.declared.test.Test.{Test}
use Rattle.fs_app_audit_json_and_why.specs.Why.{TellsSome}
use Rattle.fs_app_audit_json_and_why.proofs.executions.some_text.Goals as goal

pub returns-clause-told : goal.returns-clause-told
returns-clause-told c =
    subst (λ (u : Test). IfOk c.shown_text.result (λ text.
    TellsSome u c.args.placement.now c.args.lines.now c.args.heading.now (string_bytes text))) c.deref.ensures c.shown_text.ensures.told
