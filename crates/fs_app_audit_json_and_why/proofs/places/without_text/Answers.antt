use Rattle.std.proofs.Common.{◌∙◌, ap, inr, None, string_bytes, subst, sym}
use Rattle.std.specs.Arc.{arc_value}
use Rattle.std.proofs.lemmas.Result.{IfErr-weaker, IfOk-weaker}
use Rattle.fs_kinds.specs.Placement.{with_kind}
use Rattle.fs_model.specs.Allows.{Allows, no_fences}
use Rattle.fs_model.specs.Test.{IsSame}
use Rattle.fs_app_why.specs.Why.{without_heading}
use Rattle.fs_app_audit_json_and_why.specs.Advised.{as_advised}
use Rattle.fs_app_audit_json_and_why.specs.Why.{TellsSome}
use Rattle.fs_app_audit_json_and_why.proofs.AsAdvised.{allowed_back}
use Rattle.fs_app_audit_json_and_why.proofs.places.without_text.Goals as goal

pub some_text-requires-clause-allowed : goal.some_text-requires-clause-allowed
some_text-requires-clause-allowed c =
    let u = arc_value c.in_ok-test.test in
    let t = c.args.page.test.now in
    let q = with_kind c.args.place None c.args.placement.now in
    let same = subst (λ p. IsSame u (as_advised t p)) c.in_ok-others.ensures.ok (c.in_ok-test.ensures.same t c.requires.reads) in
    subst (λ p. Allows u p) (sym (c.in_ok-none.ensures.ok ∙ ap no_fences c.deref.ensures)) (allowed_back u (as_advised t q) same c.requires.allowed)

pub returns-clause-told : goal.returns-clause-told
returns-clause-told c =
    let u = arc_value c.in_ok-test.test in
    let t = c.args.page.test.now in
    let same = subst (λ p. IsSame u (as_advised t p)) c.in_ok-others.ensures.ok (c.in_ok-test.ensures.same t c.requires.reads) in
    IfOk-weaker c.some_text.result _ _
    (λ text told. (u, same, subst (λ p. TellsSome u p c.args.page.lines.now without_heading (string_bytes text)) (c.in_ok-none.ensures.ok ∙ ap no_fences c.deref.ensures) told))
    c.some_text.ensures.told

pub returns-clause-err : goal.returns-clause-err
returns-clause-err c =
    let u = arc_value c.in_ok-test.test in
    let t = c.args.page.test.now in
    let same = subst (λ p. IsSame u (as_advised t p)) c.in_ok-others.ensures.ok (c.in_ok-test.ensures.same t c.requires.reads) in
    IfErr-weaker c.some_text.result _ _
    (λ fault met known. inr (record { judged = u; advised = inr (c.args.place, same); met = met known }))
    c.some_text.ensures.err
