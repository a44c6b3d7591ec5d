use Rattle.std.proofs.Common.{length, arith, ◌∙◌}
use Rattle.fs_cand_listing.specs.inner.Listed.{sources_among}
use Rattle.fs_cand_listing.proofs.Numbered.{one_more, all_there}
use Rattle.fs_cand_listing.proofs.choices.all_sources.Goals as goal

pub loop-a-preserved : goal.loop-a-preserved
loop-a-preserved c =
    one_more (sources_among c.args.operations.now c.args.count) c.loop-a.lists.items _ c.new.result c.loop-a.a c.loop-a.invariant
    (c.new.ensures ∙ c.in_ok-sources.ensures) c.in_ok-push.ensures.items

pub returns : goal.returns
returns c =
    all_there (sources_among c.args.operations.now c.args.count) c.loop-a.lists.items c.loop-a.a (length c.args.operations.now)
    c.loop-a.invariant (omega (arith, c.loop-a-test.false, c.loop-a.auto.a-end))
