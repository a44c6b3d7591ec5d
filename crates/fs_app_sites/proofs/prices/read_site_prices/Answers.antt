use Rattle.std.proofs.Common.{rules, sym}
use Rattle.fs_app_place_and_order.proofs.Faults.{IfErr-handed}
use Rattle.fs_app_sites.specs.SitePrices.{no_top}
use Rattle.fs_app_sites.proofs.Faults.{read-fault, refused-fault}
use Rattle.fs_app_sites.proofs.prices.read_site_prices.Goals as goal

pub returns-in_err-object-clause-err : goal.returns-in_err-object-clause-err
returns-in_err-object-clause-err c =
    IfErr-handed c.from_residual.result _ _ c.from_residual.ensures.1
    (read-fault _ _ c.in_err-object.ensures.err c.in_err-object.ensures.bad)

pub returns-then-not-are_prices-clause-err : goal.returns-then-not-are_prices-clause-err
returns-then-not-are_prices-clause-err c =
    λ _. refused-fault _ _ c.are_prices.result c.in_ok-object.ensures.reads c.are_prices.ensures (search rules)

pub returns-in-None-clause-err : goal.returns-in-None-clause-err
returns-in-None-clause-err c =
    λ _. no_top _
    (record {
      utf8 = c.in_ok-object.ensures.utf8;
      reads = c.in_ok-object.ensures.reads;
      value = c.are_prices.ensures.0 (search rules);
    })
    (sym c.in-None.ensures.price)
