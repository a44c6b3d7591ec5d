use Rattle.std.proofs.Common.{◌≢◌, IfErr, subst, sym}
use Rattle.std.specs.Option.{option_copied}
use Rattle.fs_kinds.specs.declared.fault.Fault.TheVariants.{Memory}
use Rattle.fs_app_place_and_order.proofs.Faults.{IfErr-handed}
use Rattle.fs_app_sites.specs.Place.{IsGivenPricesFault}
use Rattle.fs_app_sites.proofs.place.given_prices.Goals as goal

pub returns-in_err-read_site_prices-in-Some-clause-err : goal.returns-in_err-read_site_prices-in-Some-clause-err
returns-in_err-read_site_prices-in-Some-clause-err c =
    subst (λ given. IfErr c.from_residual.result (λ fault. fault ≢ Memory → IsGivenPricesFault (option_copied given) fault)) (sym c.in-Some.is)
    (IfErr-handed c.from_residual.result _ _ c.from_residual.ensures.1 c.in_err-read_site_prices-in-Some.ensures.err)
