use Rattle.std.proofs.Common.{◌≡◌, map, take}
use Rattle.serde_json.specs.View.{view}
use Rattle.fs_app_states.specs.Objects.{execution_value}
use Rattle.fs_app_states.proofs.objects.all_executions.Given as goal

abbrev pub invariant-loop-state : goal.invariant-loop-state
invariant-loop-state l = map view l.values.items ≡ map execution_value (take l.state-index l.states)
