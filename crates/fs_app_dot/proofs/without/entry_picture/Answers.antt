use Rattle.std.proofs.Common.{IfOk, Option, subst, sym}
use Rattle.fs_kinds.specs.declared.kind.Kind.{Kind}
use Rattle.fs_app_dot.specs.Executions.{IsOfEntry}
use Rattle.fs_app_dot.proofs.without.entry_picture.Goals as goal

pub returns-in-Some-clause-shown : goal.returns-in-Some-clause-shown
returns-in-Some-clause-shown c ws kept =
    subst (λ (kind : Option Kind). IfOk c.without_picture.result
    (IsOfEntry c.args.page.test.now c.args.page.title.now ws c.args.placement.now c.args.entry.slot kind))
    (sym c.in-Some.is) (c.without_picture.ensures.shown ws kept)
