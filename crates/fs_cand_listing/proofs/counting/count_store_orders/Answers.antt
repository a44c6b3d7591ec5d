use Rattle.std.proofs.Common.{◌∙◌, ◌*◌, ap}
use Rattle.fs_cand_listing.specs.Ways.{factorial}
use Rattle.fs_cand_listing.specs.inner.Listed.{capped, number_of_orders}
use Rattle.fs_cand_listing.proofs.Capped.{counted_more, capped_product}
use Rattle.fs_cand_listing.proofs.counting.count_store_orders.Goals as goal

pub loop-list-preserved : goal.loop-list-preserved
loop-list-preserved c =
    let ns = c.list-item.result in
    let count = c.loop-list.count in (
      c.times-count.ensures.exact
          ∙ ap (λ n. capped (count * n)) (c.count_orders.ensures.exact ∙ ap (λ n. capped (factorial n)) c.len.ensures)
          ∙ capped_product count (number_of_orders ns)
          ∙ counted_more number_of_orders c.args.stores.now c.loop-list.list-index count ns c.loop-list-test.true c.list-item.is
          c.loop-list.invariant.0,
      c.times-count.ensures.most,
    )
