use Rattle.std.proofs.Common.{◌∙◌, arith}
use Rattle.fs_sites.proofs.Sinking.{sunk-next, sunk-whole}
use Rattle.fs_sites.proofs.bound.sink.Goals as goal

pub loop-site-preserved : goal.loop-site-preserved
loop-site-preserved c =
    let test = c.loop-site-test.true in
    let end = c.min-site-end.ensures in
    let long = c.loop-site.auto.offers in
    sunk-next c.args.less c.args.bar.now c.args.offers.now c.loop-site.offers c.loop-site.site _ c.index-offers-site.result c.sink_at.new.offer
    (omega (arith, test, end)) (omega (arith, test, end)) c.loop-site.invariant c.sink_at.ensures

pub returns : goal.returns
returns c =
    let test = c.loop-site-test.false in
    let end = c.min-site-end.ensures in
    let low = c.loop-site.auto.site-end in
    c.loop-site.invariant ∙ sunk-whole c.args.less c.args.bar.now c.args.offers.now c.loop-site.site (omega (arith, test, end, low))
