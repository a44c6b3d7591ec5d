use Rattle.std.proofs.Common.{◌∙◌, ◌≤◌, ap, length, sym, subst}
use Rattle.std.proofs.lemmas.Result.{IfOk-weaker}
use Rattle.fs_model.specs.declared.test.Test.{Test}
use Rattle.fs_board_offers.specs.Offers.{Offers}
use Rattle.fs_app_audit.specs.InPlace.{written_cost}
use Rattle.fs_app_audit.specs.Priced.{Priced}
use Rattle.fs_app_audit.specs.inner.Made.{findings_of}
use Rattle.fs_app_audit_json_and_why.proofs.Parts.{in_place_parts}
use Rattle.fs_app_audit_json_and_why.proofs.objects.in_place_value.Goals as goal

pub written_of-written-requires : goal.written_of-written-requires
written_of-written-requires c = subst (λ (os : Offers). length os ≤ 256) (sym c.as_slice.ensures.value) c.requires.few

pub returns : goal.returns
returns c =
    let table = ap (λ (q : Priced). q.prices) (c.behind-found.view_is ∙ c.deref.ensures) in
    let codes = c.as_slice-codes.ensures ∙ ap (λ (t : Test). t.codes) c.deref-2.ensures in
    let all = c.written_of-written.ensures ∙ ap written_cost c.as_slice.ensures.value in
    IfOk-weaker c.in_place_object.result _ _
    (λ value is. is
    ∙ in_place_parts c.args.name.now (findings_of c.args.found.now) c.args.in_place.now.advised _ _ _ _ _ _ _ _ _ _ c.requires.offers table
    c.deref-3.ensures.value codes c.cost_of-anew.ensures c.as_ref.ensures.value c.cost-cost.ensures all
    (c.deref-4.ensures.value ∙ c.in_ok-rows.ensures) c.in_ok-lines.ensures)
    c.in_place_object.ensures
