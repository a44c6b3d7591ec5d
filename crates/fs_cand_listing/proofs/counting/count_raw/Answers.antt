use Rattle.fs_cand_listing.proofs.Counted.{counted_raw}
use Rattle.fs_cand_listing.proofs.counting.count_raw.Goals as goal

pub returns-clause-exact : goal.returns-clause-exact
returns-clause-exact c = λ x is.
    counted_raw x c.args.operations.now c.count_accesses-count.result c.args.locations c.count_sources_among.result c.count_orders_among-orders.result
    c.times.result is (c.count_accesses-count.ensures.count x is) c.count_sources_among.ensures.exact c.count_orders_among-orders.ensures.exact c.times.ensures.exact
