use Rattle.std.proofs.Common.{◌∙◌, map, ap, arith, string_bytes}
use Rattle.std.proofs.lemmas.List.{take_all}
use Rattle.fs_report.proofs.Values.{array_shown}
use Rattle.fs_app_sites_check_and_audit.specs.Objects.{line_value}
use Rattle.fs_app_sites_check_and_audit.proofs.objects.lines_value.Goals as goal

pub returns : goal.returns
returns c =
    c.from.ensures
    ∙ array_shown c.loop-line.values.items _
    (c.loop-line.invariant
    ∙ ap (map (line_value c.args.files.now (map string_bytes c.args.names.now))) (take_all c.loop-line.line-index c.args.lines.now (omega arith)))
