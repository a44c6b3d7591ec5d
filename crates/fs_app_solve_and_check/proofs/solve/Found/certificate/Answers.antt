use Rattle.fs_app_solve_and_check.proofs.Founding.{found-there, is-certified}
use Rattle.fs_app_solve_and_check.proofs.solve.Found.certificate.Goals as goal

pub certificate_text-requires : goal.certificate_text-requires
certificate_text-requires c = found-there _ _ _ _ _ _ c.deref.ensures c.requires.3

pub returns-clause-certificate : goal.returns-clause-certificate
returns-clause-certificate c = λ test prices text limit status is prints lines.
    is-certified test prices limit _ _ text status _ _ c.deref.ensures is prints lines c.in_ok-text.ensures.ok
