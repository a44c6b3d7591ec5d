use Rattle.std.proofs.Common.{◌∙◌, ap, inl, inr, subst}
use Rattle.std.specs.Arc.{arc_value}
use Rattle.fs_board_offers.specs.Offers.{Offers, IsCheapest}
use Rattle.fs_app_place_and_order.proofs.Faults.{IfErr-handed}
use Rattle.fs_board_search.specs.Answers.{IsLimitFault}
use Rattle.fs_app_audit.specs.InPlace.{offers_in_place}
use Rattle.fs_app_audit.proofs.Followed.{some_in_place}
use Rattle.fs_app_audit.proofs.in_place.find_in_place.Goals as goal

pub returns-in_err-empty-clause-fault : goal.returns-in_err-empty-clause-fault
returns-in_err-empty-clause-fault c =
    IfErr-handed c.from_residual.result _ _ c.from_residual.ensures.1 (λ other. inl (c.in_err-empty.ensures.err other))

pub returns-in_err-advised-clause-fault : goal.returns-in_err-advised-clause-fault
returns-in_err-advised-clause-fault c =
    let is = c.in_ok-asked.ensures ∙ ap (offers_in_place c.args.prices.now) c.as_slice-codes.ensures in
    let empty = arc_value c.in_ok-empty.empty in
    IfErr-handed c.from_residual-in_err-advised.result _ _ c.from_residual-in_err-advised.ensures.1
    (λ other. inr (
      empty,
      c.in_ok-empty.ensures.same _ c.requires.reads,
      subst (λ (os : Offers). IsLimitFault (record { test = empty; offers = os }) c.args.limits.nodes c.in_err-advised.field-0.0) is (c.in_err-advised.ensures.err other),
    ))

pub advised_of-requires-clause-some : goal.advised_of-requires-clause-some
advised_of-requires-clause-some c =
    let prices = c.args.prices.now in
    let is = c.in_ok-asked.ensures ∙ ap (offers_in_place prices) c.as_slice-codes.ensures in
    some_in_place _ _ prices _ c.of-table.ensures.table is (c.in_ok-empty.ensures.same _ c.requires.reads) c.requires.forbidden

pub returns-clause-cheapest : goal.returns-clause-cheapest
returns-clause-cheapest c =
    let is = c.in_ok-asked.ensures ∙ ap (offers_in_place c.args.prices.now) c.as_slice-codes.ensures in
    subst (λ (os : Offers). IsCheapest (arc_value c.in_ok-empty.empty) os c.in_ok-advised.advised) is c.in_ok-advised.ensures.ok
