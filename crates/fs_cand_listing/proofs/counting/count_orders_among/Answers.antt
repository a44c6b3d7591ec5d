use Rattle.std.proofs.Common.{◌∙◌, ◌*◌, ap, arith}
use Rattle.fs_cand_listing.specs.Ways.{factorial}
use Rattle.fs_cand_listing.specs.inner.Listed.{capped, orders_among}
use Rattle.fs_cand_listing.proofs.Capped.{capped_product}
use Rattle.fs_cand_listing.proofs.Counted.{counted_next, counted_to}
use Rattle.fs_cand_listing.proofs.counting.count_orders_among.Goals as goal

pub loop-location-preserved : goal.loop-location-preserved
loop-location-preserved c =
    let orders = c.loop-location.orders in
    let f = orders_among c.args.operations.now c.args.count in (
      c.times-orders.ensures.exact
          ∙ ap (λ n. capped (orders * n)) (c.count_orders.ensures.exact ∙ ap (λ n. capped (factorial n)) c.count_own_stores-stores.ensures)
          ∙ capped_product orders (f c.loop-location.location)
          ∙ counted_next f c.loop-location.location orders c.loop-location.invariant.0,
      c.times-orders.ensures.most,
    )

pub returns-clause-exact : goal.returns-clause-exact
returns-clause-exact c =
    counted_to (orders_among c.args.operations.now c.args.count) c.loop-location.location c.args.locations c.loop-location.orders
    (omega (arith, c.loop-location-test.false, c.loop-location.auto.location-end)) c.loop-location.invariant.0
