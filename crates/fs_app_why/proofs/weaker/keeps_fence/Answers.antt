use Rattle.fs_model.specs.Execution.{initial_words}
use Rattle.fs_check.specs.Ordered.{runs_in}
use Rattle.fs_check.proofs.Orderings.{of_runs}
use Rattle.fs_app_why.proofs.Kept.{asked_order}
use Rattle.fs_app_why.proofs.weaker.keeps_fence.Goals as goal

pub returns-else-not-fence_rule : goal.returns-else-not-fence_rule
returns-else-not-fence_rule c =
    let t = c.args.test.now in
    let o = c.args.ordered.now in
    asked_order c.fence_rule.result _ c.stands_before.result _ c.if-not-fence_rule.false
    (c.fence_rule.ensures (initial_words t) c.requires.made)
    (c.stands_before.ensures (runs_in t o) (of_runs t o c.requires))
