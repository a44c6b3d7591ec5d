use Rattle.std.proofs.Common.{◌∙◌, [], sym}
use Rattle.fs_model.specs.Preserved.{Rule8}
use Rattle.fs_region_refutation.specs.inner.Asked.{is_ordered_in}
use Rattle.fs_region_refutation.proofs.Alike.{all_stop, all_go, all_end, rules_alike}
use Rattle.fs_region_refutation.proofs.musts.all_pair.Goals as goal

pub returns-then-not-is_pair : goal.returns-then-not-is_pair
returns-then-not-is_pair c = λ t region are.
    sym (all_stop (is_ordered_in region [] Rule8 c.args.load c.args.store) c.args.runs.now c.loop-run.run-index c.run-item.result c.loop-run-test.true c.run-item.is
    (sym (c.is_pair.ensures region) ∙ c.if-not-is_pair.true))
    ∙ rules_alike t region [] Rule8 c.args.load c.args.store c.args.runs.now are

pub loop-run-preserved : goal.loop-run-preserved
loop-run-preserved c = λ region.
    all_go (is_ordered_in region [] Rule8 c.args.load c.args.store) c.args.runs.now c.loop-run.run-index c.run-item.result c.loop-run-test.true c.run-item.is
    (c.loop-run.invariant region)
    (sym (c.is_pair.ensures region) ∙ c.if-not-is_pair.false)

pub returns : goal.returns
returns c = λ t region are.
    sym (all_end (is_ordered_in region [] Rule8 c.args.load c.args.store) c.args.runs.now c.loop-run.run-index c.loop-run-test.false (c.loop-run.invariant region))
    ∙ rules_alike t region [] Rule8 c.args.load c.args.store c.args.runs.now are
