use Rattle.std.proofs.Common.{◌∙◌, map, ap, arith}
use Rattle.std.proofs.lemmas.List.{take_all}
use Rattle.fs_report.proofs.Values.{array_shown}
use Rattle.fs_app_states.specs.Objects.{execution_value}
use Rattle.fs_app_states.proofs.objects.all_executions.Goals as goal

pub returns : goal.returns
returns c =
    c.from.ensures
    ∙ array_shown c.loop-state.values.items _
    (c.loop-state.invariant ∙ ap (map execution_value) (take_all c.loop-state.state-index c.args.states.now (omega arith)))
