use Rattle.std.proofs.Common.{◌∙◌, ◌*◌, length, ap}
use Rattle.fs_cand_listing.specs.inner.Listed.{capped}
use Rattle.fs_cand_listing.proofs.Capped.{counted_more}
use Rattle.fs_cand_listing.proofs.counting.count_choices.Goals as goal

pub loop-list-preserved : goal.loop-list-preserved
loop-list-preserved g c = (
  c.times-count.ensures.exact ∙ ap (λ n. capped (c.loop-list.count * n)) c.len.ensures
      ∙ counted_more length c.args.lists.now c.loop-list.list-index c.loop-list.count c.list-item.result c.loop-list-test.true c.list-item.is
      c.loop-list.invariant.0,
  c.times-count.ensures.most,
)
