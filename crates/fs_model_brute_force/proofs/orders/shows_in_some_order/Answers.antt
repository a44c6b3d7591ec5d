use Rattle.std.proofs.Common.{sym, ◌∙◌, subst, ◌≤◌}
use Rattle.fs_model.specs.Execution.{pre_execution}
use Rattle.fs_hart.specs.Steps.{steps_in}
use Rattle.fs_model_brute_force.proofs.Counting.{short, few}
use Rattle.fs_model_brute_force.proofs.orders.shows_in_some_order.Goals as goal

pub operations-requires-clause-steps : goal.operations-requires-clause-steps
operations-requires-clause-steps c = short c.args.test.now c.args.traces.now c.requires.test c.requires.whole

pub shows_from-requires-clause-count : goal.shows_from-requires-clause-count
shows_from-requires-clause-count c =
    c.count_accesses-count.ensures.count (pre_execution c.args.test.now (steps_in c.args.traces.now))
    (c.as_slice.ensures ∙ c.in_ok-operations.ensures.ok)

pub shows_from-requires-clause-few : goal.shows_from-requires-clause-few
shows_from-requires-clause-few c =
    subst (λ n. n ≤ 256) (sym (shows_from-requires-clause-count c))
    (few c.args.test.now c.args.traces.now c.requires.test c.requires.whole)
