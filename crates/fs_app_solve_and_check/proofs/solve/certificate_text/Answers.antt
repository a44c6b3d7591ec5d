use Rattle.fs_app_solve_and_check.proofs.Founding.{certificate-said}
use Rattle.fs_app_solve_and_check.proofs.solve.certificate_text.Goals as goal

pub returns-clause-ok : goal.returns-clause-ok
returns-clause-ok c = certificate-said _ _ _ _ _ c.in_ok-made.ensures.ok c.in_ok-text.ensures.text c.in_ok-text.ensures.file
