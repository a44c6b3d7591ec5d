use Rattle.std.proofs.Common.{◌∙◌, subst, flat_map, map, ap, arith}
use Rattle.std.proofs.lemmas.List.{take_all}
use Rattle.fs_report.specs.Objects.{fence_values}
use Rattle.fs_report.proofs.Values.{array_shown}
use Rattle.fs_report.proofs.objects.fences_value.Goals as goal

pub returns : goal.returns
returns c =
    c.from.ensures
    ∙ array_shown c.loop-entry.values.items _
    (c.loop-entry.invariant ∙ ap (flat_map (λ e. fence_values e.slot e.kind)) (take_all c.loop-entry.entry-index c.args.entries.now (omega arith)))
