use Rattle.std.proofs.Common.{rules, ◌≡◌, ◌∙◌, subst, true}
use Rattle.fs_model.specs.Condition.{condition_of}
use Rattle.fs_judge_outcomes.specs.inner.Runs.{Adds}
use Rattle.fs_judge_outcomes.proofs.Seen.{seen_next, seen_all}
use Rattle.fs_judge_outcomes.proofs.search.Search.ends_of.Goals as goal

pub loop-run-preserved : goal.loop-run-preserved
loop-run-preserved c =
    let condition = condition_of c.args.condition.now in
    let done : c.in_ok-push_end.field-0 ≡ true = search rules in (
      c.push_end.ensures.wanted ∙ c.loop-run.invariant.0,
      c.push_end.ensures.bounded ∙ c.loop-run.invariant.1,
      seen_next c.args.self.now.wanted condition c.args.hart c.args.runs.now c.loop-run.run-index c.run-item.result c.loop-run.ends.items _
          c.loop-run.invariant.2 c.loop-run-test.true c.run-item.is
          (subst (λ wanted. Adds wanted condition c.args.hart c.run-item.result c.loop-run.ends.items c.push_end.new.ends.items) c.loop-run.invariant.0
          (c.in_ok-push_end.ensures.adds done)),
    )

pub returns-clause-ends : goal.returns-clause-ends
returns-clause-ends c =
    seen_all c.args.self.now.wanted (condition_of c.args.condition.now) c.args.hart c.args.runs.now c.loop-run.run-index c.loop-run.ends.items
    c.loop-run-test.false c.loop-run.invariant.2
