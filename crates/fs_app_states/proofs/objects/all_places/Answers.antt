use Rattle.std.proofs.Common.{◌∙◌, map, ap, arith}
use Rattle.std.proofs.lemmas.List.{take_all}
use Rattle.fs_report.proofs.Values.{array_shown}
use Rattle.fs_app_states.specs.Objects.{place_value}
use Rattle.fs_app_states.proofs.objects.all_places.Goals as goal

pub returns : goal.returns
returns c =
    c.from.ensures
    ∙ array_shown c.loop-column.values.items _
    (c.loop-column.invariant ∙ ap (map place_value) (take_all c.loop-column.column-index c.args.columns.now (omega arith)))
