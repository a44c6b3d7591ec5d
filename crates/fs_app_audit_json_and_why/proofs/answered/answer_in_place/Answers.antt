use Rattle.std.proofs.Common.{◌∙◌, ap, sym, subst}
use Rattle.std.specs.Arc.{arc_value}
use Rattle.fs_kinds.specs.PriceTable.{PriceTable}
use Rattle.fs_model.specs.declared.test.Test.{Test}
use Rattle.fs_model.specs.Test.{IsBounded, IsSame}
use Rattle.fs_board_offers.specs.Offers.{Offers, IsCheapest}
use Rattle.fs_litmus.specs.Reads.{Reads}
use Rattle.fs_model_laws.specs.InPlace.{emptied}
use Rattle.fs_app_place_and_order.proofs.Faults.{IfErr-handed}
use Rattle.fs_app_test.specs.declared.said.Kind.TheVariants.{Forbidden}
use Rattle.fs_app_test.specs.SaidVerdicts.{IsForbidden}
use Rattle.fs_app_audit.specs.Audit.{IsTested, of_anew, of_memory}
use Rattle.fs_app_audit.specs.InPlace.{offers_in_place}
use Rattle.fs_app_audit.specs.declared.asked.Purpose.TheVariants.{Advise}
use Rattle.fs_app_audit.specs.inner.Made.{findings_of}
use Rattle.fs_app_audit.proofs.Answered.{fault-in-place, forbidden}
use Rattle.fs_app_audit_json_and_why.proofs.OfFindings.{of_place}
use Rattle.fs_app_audit_json_and_why.proofs.Few.{few}
use Rattle.fs_app_audit_json_and_why.proofs.answered.answer_in_place.Goals as goal

pub find_in_place-requires-clause-forbidden : goal.find_in_place-requires-clause-forbidden
find_in_place-requires-clause-forbidden c =
    subst (λ (t : Test). IsForbidden t) (sym c.deref.ensures) (forbidden _ _ _ c.requires.tested.2)

pub returns-in_err-in_place-clause-fault : goal.returns-in_err-in_place-clause-fault
returns-in_err-in_place-clause-fault c =
    let bytes = c.args.bytes.now in
    let t = c.deref.result.now in
    let reads : Reads bytes t = subst (λ (u : Test). Reads bytes u) (sym c.deref.ensures) c.requires.reads in
    let tested : IsTested t =
    subst (λ (u : Test). IsTested u) (sym c.deref.ensures) (Forbidden, c.requires.tested.0, c.requires.tested.1, c.requires.tested.2) in
    IfErr-handed c.from_residual.result _ _ c.from_residual.ensures.1
    (λ given priced. fault-in-place Advise bytes given c.args.limits.nodes c.args.prices priced t reads tested c.in_err-in_place.field-0.0 c.in_err-in_place.ensures.fault)

pub returns-in_err-found-clause-fault : goal.returns-in_err-found-clause-fault
returns-in_err-found-clause-fault c =
    IfErr-handed c.from_residual-in_err-found.result _ _ c.from_residual-in_err-found.ensures.1
    (λ given priced. of_anew (c.in_err-found.ensures.fault given priced))

pub output_in_place-requires-clause-offers : goal.output_in_place-requires-clause-offers
output_in_place-requires-clause-offers c =
    let f = findings_of c.in_ok-found.found in
    let is = c.deref.ensures ∙ sym c.in_ok-found.ensures.own in
    c.in_ok-in_place.ensures.offers
    ∙ ap (λ (t : Test). offers_in_place c.args.prices t.codes) is
    ∙ ap (λ (table : PriceTable). offers_in_place table f.test.codes) (sym c.in_ok-found.ensures.prices)

pub output_in_place-requires-clause-few : goal.output_in_place-requires-clause-few
output_in_place-requires-clause-few c =
    let bounded = subst (λ (t : Test). IsBounded t) (sym c.deref.ensures) c.requires.test.bounded in
    few c.args.prices c.deref.result.now _ bounded c.in_ok-in_place.ensures.offers

pub returns-in_err-output_in_place-clause-fault : goal.returns-in_err-output_in_place-clause-fault
returns-in_err-output_in_place-clause-fault c =
    IfErr-handed c.from_residual-in_err-output_in_place.result _ _ c.from_residual-in_err-output_in_place.ensures.1
    (λ given priced. of_anew of_memory)

pub returns-clause-answer : goal.returns-clause-answer
returns-clause-answer c = λ given priced. (
    let f = findings_of c.in_ok-found.found in
    let empty = arc_value c.in_ok-in_place.in_place.empty in
    let advised = c.in_ok-in_place.in_place.advised in
    let is = c.deref.ensures ∙ sym c.in_ok-found.ensures.own in
    let offers = ap (λ (t : Test). offers_in_place c.args.prices t.codes) is
    ∙ ap (λ (table : PriceTable). offers_in_place table f.test.codes) (sym c.in_ok-found.ensures.prices) in
    let made = c.in_ok-output_in_place.ensures in
    of_place c.args.name.now c.args.bytes.now given _ _ _ _ f empty advised (c.in_ok-found.ensures.found given priced)
    c.in_ok-found.ensures.kind (subst (λ (t : Test). IsSame empty (emptied t)) is c.in_ok-in_place.ensures.same)
    (subst (λ (os : Offers). IsCheapest empty os advised) offers c.in_ok-in_place.ensures.cheapest)
    made.text made.status made.kind made.saved
    )
