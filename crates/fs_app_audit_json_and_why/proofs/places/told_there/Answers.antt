use Rattle.std.proofs.Common.{Option, IfOk, string_bytes, subst, sym}
use Rattle.fs_kinds.specs.declared.kind.Kind.{Kind}
use Rattle.fs_app_audit_json_and_why.specs.Why.{TellsPlace}
use Rattle.fs_app_audit_json_and_why.proofs.places.told_there.Goals as goal

pub returns-in-Some-clause-told : goal.returns-in-Some-clause-told
returns-in-Some-clause-told c =
    let page = c.args.page in
    subst (λ (kind : Option Kind). IfOk c.fence_text.result (λ text.
    TellsPlace page.test.now page.lines.now page.telling c.args.kinds.now c.args.placement.now c.args.entry.slot kind (string_bytes text)))
    (sym c.in-Some.is) c.fence_text.ensures.told
