use Rattle.std.proofs.Common.{◌∙◌, ap}
use Rattle.fs_model.specs.declared.test.Test.{Test}
use Rattle.fs_app_audit.specs.InPlace.{written_cost}
use Rattle.fs_app_audit.specs.Priced.{Priced}
use Rattle.fs_app_audit.specs.inner.Made.{findings_of}
use Rattle.fs_app_audit.proofs.Shown.{in_place_parts}
use Rattle.fs_app_audit.proofs.audit.output_in_place.Goals as goal

pub returns-clause-text : goal.returns-clause-text
returns-clause-text c =
    let table = ap (λ (q : Priced). q.prices) (c.behind-found.view_is ∙ c.deref.ensures) in
    let codes = c.as_slice-codes.ensures ∙ ap (λ (t : Test). t.codes) c.deref-2.ensures in
    let all = c.written_cost-written.ensures.value ∙ ap written_cost c.as_slice.ensures.value in
    c.in_ok-push_str.ensures.bytes
    ∙ in_place_parts (findings_of c.args.found.now) c.args.in_place.now.advised _ _ _ _ _ _ _ _ _ c.requires.offers table c.deref-3.ensures.value
    codes all c.cost-cost.ensures c.as_ref.ensures.value c.in_ok-text.ensures (c.as_str.ensures.value ∙ c.in_ok-below.ensures)
