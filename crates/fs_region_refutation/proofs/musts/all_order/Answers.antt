use Rattle.std.proofs.Common.{◌∙◌, sym}
use Rattle.fs_region_refutation.specs.inner.Asked.{is_ordered_in}
use Rattle.fs_region_refutation.proofs.Alike.{all_stop, all_go, all_end, rules_alike}
use Rattle.fs_region_refutation.proofs.musts.all_order.Goals as goal

pub returns-then-not-is_rule : goal.returns-then-not-is_rule
returns-then-not-is_rule c = λ t region r are one two n.
    let test = is_ordered_in region c.args.placement.now r c.args.first.name c.args.second.name in
    sym (all_stop test c.args.runs.now c.loop-run.run-index c.run-item.result c.loop-run-test.true c.run-item.is
    (sym (c.is_rule.ensures region one two r n) ∙ c.if-not-is_rule.true))
    ∙ rules_alike t region c.args.placement.now r c.args.first.name c.args.second.name c.args.runs.now are

pub loop-run-preserved : goal.loop-run-preserved
loop-run-preserved c = λ region r one two n.
    let test = is_ordered_in region c.args.placement.now r c.args.first.name c.args.second.name in
    all_go test c.args.runs.now c.loop-run.run-index c.run-item.result c.loop-run-test.true c.run-item.is
    (c.loop-run.invariant region r one two n)
    (sym (c.is_rule.ensures region one two r n) ∙ c.if-not-is_rule.false)

pub returns : goal.returns
returns c = λ t region r are one two n.
    let test = is_ordered_in region c.args.placement.now r c.args.first.name c.args.second.name in
    sym (all_end test c.args.runs.now c.loop-run.run-index c.loop-run-test.false (c.loop-run.invariant region r one two n))
    ∙ rules_alike t region c.args.placement.now r c.args.first.name c.args.second.name c.args.runs.now are
