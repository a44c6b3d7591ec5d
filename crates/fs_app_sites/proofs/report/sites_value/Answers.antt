use Rattle.std.proofs.Common.{◌++◌, ◌∙◌, ap, map, string_bytes}
use Rattle.serde_json.specs.View.{view}
use Rattle.fs_report.proofs.Values.{array_shown}
use Rattle.fs_app_sites.specs.Printed.{sites_values}
use Rattle.fs_app_sites.proofs.report.sites_value.Goals as goal

pub returns : goal.returns
returns c =
    let made = sites_values c.args.entries.now (map string_bytes c.args.names.now) in
    c.from.ensures
    ∙ array_shown _ _ (c.in_ok-push_sites.ensures ∙ ap (λ values. map view values ++ made) c.new-values.ensures.items)
