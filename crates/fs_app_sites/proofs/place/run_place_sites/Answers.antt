use Rattle.std.proofs.Common.{option_map, subst, sym}
use Rattle.std.specs.Option.{option_copied}
use Rattle.std.proofs.lemmas.Result.{IfErr-weaker, IfOk-weaker}
use Rattle.serde_json.specs.View.{view}
use Rattle.fs_app_place_and_order.proofs.Faults.{IfErr-handed}
use Rattle.fs_app_sites.specs.Place.{AreGivenPrices}
use Rattle.fs_app_sites.proofs.PlaceFaults.{place-prices}
use Rattle.fs_app_sites.proofs.place.run_place_sites.Goals as goal

pub returns-in_err-prices-clause-fault : goal.returns-in_err-prices-clause-fault
returns-in_err-prices-clause-fault c =
    IfErr-handed c.from_residual.result _ _ c.from_residual.ensures.1 (place-prices _ _ _ _ _ c.in_err-prices.ensures.err)

pub returns-clause-text : goal.returns-clause-text
returns-clause-text c =
    let bytes = option_copied c.args.prices in
    let priced = subst (λ given. AreGivenPrices bytes (option_map view given)) (sym c.as_ref.ensures.value) c.in_ok-prices.ensures.ok in
    IfOk-weaker c.place_priced.result _ _ (λ output says. says bytes priced) c.place_priced.ensures.text

pub returns-clause-fault : goal.returns-clause-fault
returns-clause-fault c =
    let bytes = option_copied c.args.prices in
    let priced = subst (λ given. AreGivenPrices bytes (option_map view given)) (sym c.as_ref.ensures.value) c.in_ok-prices.ensures.ok in
    IfErr-weaker c.place_priced.result _ _ (λ f says. says bytes priced) c.place_priced.ensures.fault
