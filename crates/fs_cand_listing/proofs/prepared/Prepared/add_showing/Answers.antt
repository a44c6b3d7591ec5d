use Rattle.std.proofs.Common.{arith}
use Rattle.fs_cand_listing.proofs.Kept.{row_more, rows_whole}
use Rattle.fs_cand_listing.proofs.prepared.Prepared.add_showing.Goals as goal

pub loop-first-preserved : goal.loop-first-preserved
loop-first-preserved c =
    row_more c.args.test.now c.args.self.now c.requires.prepared c.args.runs c.loop-first.first c.args.kept.now.items c.loop-first.kept.items
    c.add_with.new.kept.items c.loop-first.invariant c.in_ok-add_with.ensures

pub returns : goal.returns
returns c =
    rows_whole c.args.test.now c.args.self.now c.requires.prepared c.args.runs c.loop-first.first c.count_sources-first-end.result
    c.args.kept.now.items c.loop-first.kept.items c.requires.few c.count_sources-first-end.ensures.exact
    (omega (arith, c.loop-first-test.false, c.loop-first.auto.first-end)) c.loop-first.invariant
