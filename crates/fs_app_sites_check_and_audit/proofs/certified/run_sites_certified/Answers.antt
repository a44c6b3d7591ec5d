use Rattle.std.proofs.Common.{map, string_bytes}
use Rattle.fs_app_place_and_order.proofs.Faults.{IfErr-handed}
use Rattle.fs_app_sites.proofs.Faults.{first-asked, first-memory, first-search}
use Rattle.fs_app_sites.proofs.Reading.{asked-again, is-solved}
use Rattle.fs_app_sites_check_and_audit.proofs.Certificates.{each_certified}
use Rattle.fs_app_sites_check_and_audit.proofs.certified.run_sites_certified.Goals as goal

pub returns-in_err-asked-clause-fault : goal.returns-in_err-asked-clause-fault
returns-in_err-asked-clause-fault g c =
    IfErr-handed c.from_residual.result _ _ c.from_residual.ensures.1 (first-asked _ _ _ c.in_err-asked.ensures.fault)

pub returns-in_err-answer-clause-fault : goal.returns-in_err-answer-clause-fault
returns-in_err-answer-clause-fault g c =
    IfErr-handed c.from_residual-in_err-answer.result _ _ c.from_residual-in_err-answer.ensures.1
    (first-search _ _ _ _ _ c.in_ok-asked.ensures.ok c.in_err-answer.ensures.err)

pub returns-in_err-solved-clause-fault : goal.returns-in_err-solved-clause-fault
returns-in_err-solved-clause-fault g c =
    IfErr-handed c.from_residual-in_err-solved.result _ _ c.from_residual-in_err-solved.ensures.1
    (first-memory _ _ _ c.in_err-solved.ensures.err)

pub returns-in_err-certificate-clause-fault : goal.returns-in_err-certificate-clause-fault
returns-in_err-certificate-clause-fault g c =
    IfErr-handed c.from_residual-in_err-certificate.result _ _ c.from_residual-in_err-certificate.ensures.1
    (first-memory _ _ _ c.in_err-certificate.ensures.err)

pub returns-clause-ok : goal.returns-clause-ok
returns-clause-ok g c =
    let asked = asked-again _ _ _ string_bytes _ _ c.as_slice-names.ensures c.in_ok-asked.ensures.ok in
    is-solved _ _ _ (map string_bytes c.as_slice-names.result.now) _ _ _ _ asked
    c.in_ok-answer.ensures.ok c.in_ok-solved.ensures.text c.in_ok-solved.ensures.status

pub returns-clause-certificate : goal.returns-clause-certificate
returns-clause-certificate g c =
    let asked = asked-again _ _ _ string_bytes _ _ c.as_slice-names.ensures c.in_ok-asked.ensures.ok in
    each_certified _ _ _ (map string_bytes c.as_slice-names.result.now) _ _ _ _ _ asked
    c.in_ok-answer.ensures.ok c.in_ok-solved.ensures.text c.in_ok-solved.ensures.status
    c.in_ok-certificate.ensures.ok
