use Rattle.std.proofs.Common.{ap, ◌==◌, ◌∙◌}
use Rattle.fs_app_sites_check_and_audit.proofs.Parts.{none_left}
use Rattle.fs_app_sites_check_and_audit.proofs.values.is_empty.Goals as goal

pub returns-in-Some : goal.returns-in-Some
returns-in-Some c =
    none_left _ _ _ c.in-Some.ensures (c.is_empty.ensures ∙ ap (λ n. n == 0) c.in-Some.items.now.ok.0)
