use Rattle.std.proofs.Common.{◌∙◌, map, ap, arith}
use Rattle.std.proofs.lemmas.List.{take_all}
use Rattle.fs_report.proofs.Values.{array_shown}
use Rattle.fs_app_audit_json_and_why.specs.Objects.{row_value}
use Rattle.fs_app_audit_json_and_why.proofs.row_values.rows_value.Goals as goal

pub returns : goal.returns
returns c =
    c.from.ensures
    ∙ array_shown c.loop-row.values.items _
    (c.loop-row.invariant ∙ ap (map row_value) (take_all c.loop-row.row-index c.args.rows.now (omega arith)))
