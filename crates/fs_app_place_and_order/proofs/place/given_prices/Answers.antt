use Rattle.std.proofs.Common.{◌≢◌, IfErr, subst, sym}
use Rattle.std.specs.Option.{option_copied}
use Rattle.fs_kinds.specs.declared.fault.Fault.TheVariants.{Memory}
use Rattle.fs_app_place_and_order.specs.Place.{IsPricesFault}
use Rattle.fs_app_place_and_order.proofs.Faults.{IfErr-handed, IsPricesFault-read}
use Rattle.fs_app_place_and_order.proofs.place.given_prices.Goals as goal

pub returns-in_err-read_prices-in-Some-clause-err : goal.returns-in_err-read_prices-in-Some-clause-err
returns-in_err-read_prices-in-Some-clause-err c =
    let said = c.in_err-read_prices-in-Some.ensures in
    subst (λ given. IfErr c.from_residual.result (λ fault. fault ≢ Memory → IsPricesFault (option_copied given) fault)) (sym c.in-Some.is)
    (IfErr-handed c.from_residual.result _ _ c.from_residual.ensures.1 (IsPricesFault-read c.in-Some.bytes.now _ said.err said.bad said.no_top))
