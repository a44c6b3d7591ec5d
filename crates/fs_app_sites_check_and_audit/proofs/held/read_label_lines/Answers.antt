use Rattle.std.proofs.Common.{ap, map, ◌∙◌}
use Rattle.fs_litmus.specs.SiteLabels.{all_of}
use Rattle.fs_app_sites_check_and_audit.proofs.held.read_label_lines.Goals as goal

pub returns-clause-ok : goal.returns-clause-ok
returns-clause-ok c = (
  all_of c.in_ok-labels.labels.items,
  c.in_ok-labels.ensures.ok,
  c.in_ok-label_lines.ensures ∙ ap (λ labels. map (λ label. label.line) (all_of labels)) c.deref.ensures.value,
)
