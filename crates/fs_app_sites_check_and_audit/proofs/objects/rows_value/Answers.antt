use Rattle.std.proofs.Common.{◌∙◌, map, ap, arith}
use Rattle.std.proofs.lemmas.List.{take_all}
use Rattle.fs_report.proofs.Values.{array_shown}
use Rattle.fs_app_sites_check_and_audit.specs.Objects.{row_value}
use Rattle.fs_app_sites_check_and_audit.proofs.objects.rows_value.Goals as goal

pub returns : goal.returns
returns c =
    c.from.ensures
    ∙ array_shown c.loop-row.values.items _
    (c.loop-row.invariant ∙ ap (map (row_value c.args.files.now)) (take_all c.loop-row.row-index c.args.rows.now (omega arith)))
