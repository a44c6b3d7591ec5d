use Rattle.std.proofs.Common.{rules}
use Rattle.fs_app_sites_check_and_audit.proofs.Certificates.{accepted-again}
use Rattle.fs_app_sites_check_and_audit.proofs.certified.certificate_of.Goals as goal

pub returns-clause-ok : goal.returns-clause-ok
returns-clause-ok c =
    accepted-again _ _ _ _ _ _ _ c.as_bytes.ensures.value c.as_str.ensures.value c.in_ok-lines.ensures
    (c.in_ok-holds.ensures.ok (search rules))
