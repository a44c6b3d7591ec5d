use Rattle.std.proofs.Common.{◌∙◌, ap, map, option_map, string_bytes}
use Rattle.std.specs.Option.{option_copied}
use Rattle.std.proofs.lemmas.Result.{IfErr-weaker, IfOk-weaker}
use Rattle.serde_json.specs.View.{view}
use Rattle.fs_app_place_and_order.proofs.Faults.{IfErr-handed}
use Rattle.fs_app_sites.specs.Place.{offers_given}
use Rattle.fs_app_sites.proofs.PlaceFaults.{place-file, place-memory}
use Rattle.fs_app_sites.proofs.place.place_priced.Goals as goal

pub returns-in_err-test-clause-fault : goal.returns-in_err-test-clause-fault
returns-in_err-test-clause-fault c =
    IfErr-handed c.from_residual.result _ _ c.from_residual.ensures.1
    (λ given priced. place-file _ _ _ _ _ _ priced c.in_err-test.ensures.err)

pub returns-in_err-offers-clause-fault : goal.returns-in_err-offers-clause-fault
returns-in_err-offers-clause-fault c =
    IfErr-handed c.from_residual-in_err-offers.result _ _ c.from_residual-in_err-offers.ensures.1
    (λ given priced. place-memory _ _ _ _ _ c.in_err-offers.ensures.err)

pub returns-clause-text : goal.returns-clause-text
returns-clause-text c =
    let table = option_map view (option_copied c.args.prices) in
    let offered = c.as_ref.ensures.value ∙ c.in_ok-offers.ensures.ok ∙ ap (λ ns. offers_given table (map string_bytes ns)) c.deref.ensures in
    IfOk-weaker c.place_words.result _ _
    (λ output says given priced. says c.args.is_free c.args.test.now given
    (record { given = table; priced = priced; sites = c.in_ok-test.ensures.sites; offered = offered }))
    c.place_words.ensures.text

pub returns-clause-fault : goal.returns-clause-fault
returns-clause-fault c =
    let table = option_map view (option_copied c.args.prices) in
    let offered = c.as_ref.ensures.value ∙ c.in_ok-offers.ensures.ok ∙ ap (λ ns. offers_given table (map string_bytes ns)) c.deref.ensures in
    IfErr-weaker c.place_words.result _ _
    (λ f says given priced. says c.args.is_free c.args.test.now given
    (record { given = table; priced = priced; sites = c.in_ok-test.ensures.sites; offered = offered }))
    c.place_words.ensures.fault
