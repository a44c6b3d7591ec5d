use Rattle.std.proofs.Common.{◌∙◌}
use Rattle.fs_cand_listing.proofs.Capped.{factorial_more}
use Rattle.fs_cand_listing.proofs.counting.count_orders.Goals as goal

pub loop-k-preserved : goal.loop-k-preserved
loop-k-preserved c =
    (c.times-count.ensures.exact ∙ factorial_more c.loop-k.k c.loop-k.count c.loop-k.invariant.0, c.times-count.ensures.most)
