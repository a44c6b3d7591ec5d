use Rattle.std.proofs.Common.{◌∙◌, ◌*◌, length, ap, arith}
use Rattle.fs_cand_listing.specs.inner.Listed.{capped, number_of_sources}
use Rattle.fs_cand_listing.proofs.Counted.{counted_next, counted_to}
use Rattle.fs_cand_listing.proofs.counting.count_sources_among.Goals as goal

pub loop-a-preserved : goal.loop-a-preserved
loop-a-preserved c = (
  c.times-count.ensures.exact
      ∙ ap (λ n. capped (c.loop-a.count * n)) c.count_sources.ensures
      ∙ counted_next (number_of_sources c.args.operations.now) c.loop-a.a c.loop-a.count c.loop-a.invariant.0,
  c.times-count.ensures.most,
)

pub returns-clause-exact : goal.returns-clause-exact
returns-clause-exact c =
    counted_to (number_of_sources c.args.operations.now) c.loop-a.a (length c.args.operations.now) c.loop-a.count
    (omega (arith, c.loop-a-test.false, c.loop-a.auto.a-end)) c.loop-a.invariant.0
