use Rattle.std.proofs.Common.{◌≡◌, take, filter}
use Rattle.fs_model.specs.Condition.{condition_of}
use Rattle.fs_app_states.specs.Report.{counts}
use Rattle.fs_app_states.proofs.counted.guarded.Given as goal

-- those so far
abbrev pub invariant-loop-state : goal.invariant-loop-state
invariant-loop-state l =
    l.made.items ≡ filter (λ state. counts l.columns (condition_of l.condition) state.words) (take l.state-index l.states)
