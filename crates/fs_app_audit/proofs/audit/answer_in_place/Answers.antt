use Rattle.std.proofs.Common.{◌∙◌, ap, sym, subst}
use Rattle.std.specs.Arc.{arc_value}
use Rattle.fs_kinds.specs.PriceTable.{PriceTable}
use Rattle.fs_model.specs.declared.test.Test.{Test}
use Rattle.fs_model.specs.Test.{IsSame}
use Rattle.fs_board_offers.specs.Offers.{Offers, IsCheapest}
use Rattle.fs_litmus.specs.Reads.{Reads}
use Rattle.fs_model_laws.specs.InPlace.{emptied}
use Rattle.fs_app_place_and_order.proofs.Faults.{IfErr-handed}
use Rattle.fs_app_test.specs.declared.said.Kind.TheVariants.{Forbidden}
use Rattle.fs_app_test.specs.SaidVerdicts.{IsForbidden}
use Rattle.fs_app_audit.specs.Audit.{IsTested, of_anew, of_forbidden, of_memory}
use Rattle.fs_app_audit.specs.InPlace.{offers_in_place}
use Rattle.fs_app_audit.specs.declared.asked.Purpose.TheVariants.{Advise}
use Rattle.fs_app_audit.specs.inner.Made.{findings_of}
use Rattle.fs_app_audit.proofs.Answered.{fault-in-place, forbidden}
use Rattle.fs_app_audit.proofs.audit.answer_in_place.Goals as goal

pub find_in_place-requires-clause-forbidden : goal.find_in_place-requires-clause-forbidden
find_in_place-requires-clause-forbidden c =
    subst (λ (t : Test). IsForbidden t) (sym c.deref.ensures) (forbidden _ _ _ c.requires.tested.2)

pub returns-in_err-in_place-clause-fault : goal.returns-in_err-in_place-clause-fault
returns-in_err-in_place-clause-fault c =
    let bytes = c.args.bytes.now in
    let t = c.deref.result.now in
    let reads : Reads bytes t = subst (λ (u : Test). Reads bytes u) (sym c.deref.ensures) c.requires.reads in
    let tested : IsTested t =
    subst (λ (u : Test). IsTested u) (sym c.deref.ensures) (Forbidden, c.requires.tested.0, c.requires.tested.1, c.requires.tested.2) in
    IfErr-handed c.from_residual.result _ _ c.from_residual.ensures.1
    (λ file priced. fault-in-place Advise bytes file c.args.limits.nodes c.args.prices priced t reads tested c.in_err-in_place.field-0.0 c.in_err-in_place.ensures.fault)

pub returns-in_err-found-clause-fault : goal.returns-in_err-found-clause-fault
returns-in_err-found-clause-fault c =
    IfErr-handed c.from_residual-in_err-found.result _ _ c.from_residual-in_err-found.ensures.1
    (λ file priced. of_anew (c.in_err-found.ensures.fault file priced))

pub output_in_place-requires-clause-offers : goal.output_in_place-requires-clause-offers
output_in_place-requires-clause-offers c =
    let f = findings_of c.in_ok-found.found in
    let is = c.deref.ensures ∙ sym c.in_ok-found.ensures.own in
    c.in_ok-in_place.ensures.offers
    ∙ ap (λ (t : Test). offers_in_place c.args.prices t.codes) is
    ∙ ap (λ (table : PriceTable). offers_in_place table f.test.codes) (sym c.in_ok-found.ensures.prices)

pub returns-in_err-output_in_place-clause-fault : goal.returns-in_err-output_in_place-clause-fault
returns-in_err-output_in_place-clause-fault c =
    IfErr-handed c.from_residual-in_err-output_in_place.result _ _ c.from_residual-in_err-output_in_place.ensures.1
    (λ file priced. of_anew of_memory)

pub returns-clause-answer : goal.returns-clause-answer
returns-clause-answer c = λ file priced. (
    let f = findings_of c.in_ok-found.found in
    let empty = arc_value c.in_ok-in_place.in_place.empty in
    let advised = c.in_ok-in_place.in_place.advised in
    let is = c.deref.ensures ∙ sym c.in_ok-found.ensures.own in
    let offers = ap (λ (t : Test). offers_in_place c.args.prices t.codes) is
    ∙ ap (λ (table : PriceTable). offers_in_place table f.test.codes) (sym c.in_ok-found.ensures.prices) in
    of_forbidden
    (record {
      findings = f;
      found = c.in_ok-found.ensures.found file priced;
      forbidden = c.in_ok-found.ensures.kind;
      empty = empty;
      same = subst (λ (t : Test). IsSame empty (emptied t)) is c.in_ok-in_place.ensures.same;
      advised = advised;
      cheapest = subst (λ (os : Offers). IsCheapest empty os advised) offers c.in_ok-in_place.ensures.cheapest;
      shown = c.in_ok-output_in_place.ensures.text;
      ends = c.in_ok-output_in_place.ensures.status;
    })
    c.in_ok-output_in_place.ensures.kind
    c.in_ok-output_in_place.ensures.saved
    )
