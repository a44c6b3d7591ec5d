use Rattle.std.proofs.Common.{◌∙◌, ap, sym}
use Rattle.std.specs.Prelude.{not}
use Rattle.std.proofs.lemmas.Result.{IfOk-weaker}
use Rattle.fs_model.specs.Condition.{condition_of}
use Rattle.fs_model.specs.declared.outcome.Outcome.{Outcome}
use Rattle.fs_region_refutation.specs.Views.{region_of, list_at}
use Rattle.fs_region_refutation.specs.inner.Each.{may_each}
use Rattle.fs_region_refutation.proofs.Each.{same_seen, both_each, either_each}
use Rattle.fs_region_refutation.proofs.endings.+may_each.Goals as goal

pub returns-in-Always : goal.returns-in-Always
returns-in-Always d c =
    let hart = c.args.names.now.hart in
    IfOk-weaker c.same_each.result _ _
    (λ marks is.
    is ∙ same_seen c.args.truth c.runs.result.now (list_at c.args.region.now hart) c.runs.ensures
    ∙ ap (λ (o : Outcome). may_each c.args.basis.now hart (region_of c.args.region.now) (condition_of o) c.args.truth) (sym c.in-Always.is))
    c.same_each.ensures

pub returns-in-Never : goal.returns-in-Never
returns-in-Never d c =
    let hart = c.args.names.now.hart in
    IfOk-weaker c.same_each-in-Never.result _ _
    (λ marks is.
    is ∙ same_seen (not c.args.truth) c.runs-in-Never.result.now (list_at c.args.region.now hart) c.runs-in-Never.ensures
    ∙ ap (λ (o : Outcome). may_each c.args.basis.now hart (region_of c.args.region.now) (condition_of o) c.args.truth) (sym c.in-Never.is))
    c.same_each-in-Never.ensures

pub returns-in-RegisterIs : goal.returns-in-RegisterIs
returns-in-RegisterIs d c =
    IfOk-weaker c.registers_each.result _ _
    (λ marks is.
    is
    ∙ ap (λ (o : Outcome). may_each c.args.basis.now c.args.names.now.hart (region_of c.args.region.now) (condition_of o) c.args.truth) (sym c.in-RegisterIs.is))
    (c.registers_each.ensures c.args.basis.now c.requires.of)

pub returns-in-LocationIs : goal.returns-in-LocationIs
returns-in-LocationIs d c =
    IfOk-weaker c.ends_each.result _ _
    (λ marks is.
    is
    ∙ ap (λ (o : Outcome). may_each c.args.basis.now c.args.names.now.hart (region_of c.args.region.now) (condition_of o) c.args.truth) (sym c.in-LocationIs.is))
    c.ends_each.ensures

pub returns-in_ok-second-in-Both : goal.returns-in_ok-second-in-Both
returns-in_ok-second-in-Both d c =
    let t = c.args.basis.now in
    let hart = c.args.names.now.hart in
    let region = region_of c.args.region.now in
    let v = c.args.truth in
    let part = λ (o : Outcome). may_each t hart region (condition_of o) v in
    IfOk-weaker c.joined.result _ _
    (λ marks is.
    is
    ∙ both_each t hart region (condition_of c.in-Both.left.value) (condition_of c.in-Both.right.value) v c.deref-in-Both-3.result.now c.deref-in-Both-4.result.now
    (c.deref-in-Both-3.ensures.value ∙ c.in_ok-first-in-Both.ensures ∙ ap part c.deref-in-Both.ensures)
    (c.deref-in-Both-4.ensures.value ∙ c.in_ok-second-in-Both.ensures ∙ ap part c.deref-in-Both-2.ensures)
    ∙ ap part (sym c.in-Both.is))
    c.joined.ensures

pub returns-in_ok-second-in-Either : goal.returns-in_ok-second-in-Either
returns-in_ok-second-in-Either d c =
    let t = c.args.basis.now in
    let hart = c.args.names.now.hart in
    let region = region_of c.args.region.now in
    let v = c.args.truth in
    let part = λ (o : Outcome). may_each t hart region (condition_of o) v in
    IfOk-weaker c.joined-in-Either.result _ _
    (λ marks is.
    is
    ∙ either_each t hart region (condition_of c.in-Either.left.value) (condition_of c.in-Either.right.value) v c.deref-in-Either-3.result.now c.deref-in-Either-4.result.now
    (c.deref-in-Either-3.ensures.value ∙ c.in_ok-first-in-Either.ensures ∙ ap part c.deref-in-Either.ensures)
    (c.deref-in-Either-4.ensures.value ∙ c.in_ok-second-in-Either.ensures ∙ ap part c.deref-in-Either-2.ensures)
    ∙ ap part (sym c.in-Either.is))
    c.joined-in-Either.ensures
