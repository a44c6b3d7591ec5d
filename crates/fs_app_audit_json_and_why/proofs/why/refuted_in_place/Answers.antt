use Rattle.std.proofs.Common.{◌≡◌, ◌∙◌, ap, inl, inr, string_bytes, subst}
use Rattle.std.specs.Arc.{arc_value}
use Rattle.std.proofs.lemmas.Result.{IfErr-weaker, IfOk-weaker}
use Rattle.fs_model.specs.Allows.{Allows, no_fences}
use Rattle.fs_app_why.specs.Why.{TellsForbidden}
use Rattle.fs_app_audit_json_and_why.specs.Advised.{as_advised}
use Rattle.fs_app_audit_json_and_why.proofs.AsAdvised.{advised_forbids, allowed_alike}
use Rattle.fs_app_audit_json_and_why.proofs.why.refuted_in_place.Goals as goal

pub refuted-requires-clause-forbidden : goal.refuted-requires-clause-forbidden
refuted-requires-clause-forbidden c = λ possible.
    let u = arc_value c.in_ok-test.test in
    let t = c.args.page.test.now in
    let p = c.args.placement.now in
    let same = c.in_ok-test.ensures.same t c.requires.reads in
    advised_forbids t c.requires.advised.0 p c.requires.advised.1
    (allowed_alike u (as_advised t p) same (subst (λ q. Allows u q) (c.in_ok-none.ensures.ok ∙ ap no_fences c.deref.ensures) possible))

pub returns-clause-told : goal.returns-clause-told
returns-clause-told c =
    let u = arc_value c.in_ok-test.test in
    let t = c.args.page.test.now in
    let lines = c.args.page.lines.now in
    IfOk-weaker c.refuted.result _ _
    (λ made told. (
    let those = subst (λ q. (f : TellsForbidden u lines c.args.page.telling q (string_bytes made.text)) × (f.kinds ≡ made.kinds.items))
    (c.in_ok-none.ensures.ok ∙ ap no_fences c.deref.ensures) told in
    (u, c.in_ok-test.ensures.same t c.requires.reads, those.0, those.1)
    ))
    c.refuted.ensures.told

pub returns-clause-err : goal.returns-clause-err
returns-clause-err c =
    let u = arc_value c.in_ok-test.test in
    let t = c.args.page.test.now in
    IfErr-weaker c.refuted.result _ _
    (λ fault met known. inr (record { judged = u; advised = inl (c.in_ok-test.ensures.same t c.requires.reads); met = met known }))
    c.refuted.ensures.err
