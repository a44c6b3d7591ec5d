use Rattle.fs_app_sites_check_and_audit.proofs.Certificates.{is_accepted}
use Rattle.fs_app_sites_check_and_audit.proofs.certified.is_accepted.Goals as goal

pub returns-in_ok-is_yes-in-Ok-clause-ok : goal.returns-in_ok-is_yes-in-Ok-clause-ok
returns-in_ok-is_yes-in-Ok-clause-ok c =
    λ holds. is_accepted _ _ _ _ _ _ _ c.in-Ok.ensures.answer (c.in_ok-is_yes-in-Ok.ensures.text holds)
    (c.in_ok-is_yes-in-Ok.ensures.status holds)
