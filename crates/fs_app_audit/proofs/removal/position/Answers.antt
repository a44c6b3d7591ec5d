use Rattle.std.proofs.Common.{count_by, ap, ◌∙◌}
use Rattle.fs_app_audit.specs.Unfenced.{is_kept}
use Rattle.fs_app_audit.proofs.removal.position.Goals as goal

pub returns : goal.returns
returns c = c.count_kept.ensures ∙ ap (count_by is_kept) c.before-2.ensures
