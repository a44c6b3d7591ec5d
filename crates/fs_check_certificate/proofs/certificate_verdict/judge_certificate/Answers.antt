use Rattle.std.proofs.Common.{IfOk, ap, sym, subst, ◌∙◌}
use Rattle.fs_model.specs.declared.test.Test.{Test}
use Rattle.fs_model.specs.Slots as its
use Rattle.fs_board_offers.specs.Offers.{Offers, slots, offers_of}
use Rattle.fs_board_offers.proofs.Priced.{same-slots}
use Rattle.fs_check_certificate.specs.inner.Judgements.{IsJudgement}
use Rattle.fs_check_certificate.proofs.certificate_verdict.judge_certificate.Goals as goal

pub judge-requires-clause-slots : goal.judge-requires-clause-slots
judge-requires-clause-slots c =
    ap slots c.in_ok-offers.ensures.ok
    ∙ (same-slots c.deref.result.now c.args.prices.now
    ∙ ap (λ (t : Test). its.slots t) (c.deref.ensures ∙ sym c.in_ok-held.ensures.test))

pub returns-clause-ok : goal.returns-clause-ok
returns-clause-ok c said keeps =
    let prices = c.args.prices.now in
    let offers = c.in_ok-offers.ensures.ok ∙ ap (λ (t : Test). offers_of t prices) c.deref.ensures in
    let of_held = c.judge.ensures.ok said keeps (c.in_ok-held.ensures.holds said.cycles keeps.cycles) in
    subst (λ (o : Offers). IfOk c.judge.result (IsJudgement c.args.test.value o said)) offers
    (subst (λ (t : Test). IfOk c.judge.result (IsJudgement t c.in_ok-offers.offers said)) c.in_ok-held.ensures.test of_held)
