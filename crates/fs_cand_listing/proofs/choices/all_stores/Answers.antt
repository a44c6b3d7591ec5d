use Rattle.std.proofs.Common.{arith, ◌∙◌}
use Rattle.fs_cand_listing.specs.inner.Listed.{own_among}
use Rattle.fs_cand_listing.proofs.Numbered.{one_more, all_there}
use Rattle.fs_cand_listing.proofs.choices.all_stores.Goals as goal

pub loop-location-preserved : goal.loop-location-preserved
loop-location-preserved c =
    one_more (own_among c.args.operations.now c.args.count) c.loop-location.lists.items _ c.new.result c.loop-location.location c.loop-location.invariant
    (c.new.ensures ∙ c.in_ok-own_stores.ensures) c.in_ok-push.ensures.items

pub returns : goal.returns
returns c =
    all_there (own_among c.args.operations.now c.args.count) c.loop-location.lists.items c.loop-location.location c.args.locations
    c.loop-location.invariant (omega (arith, c.loop-location-test.false, c.loop-location.auto.location-end))
