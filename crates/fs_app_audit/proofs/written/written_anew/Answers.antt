use Rattle.fs_app_place_and_order.proofs.Faults.{IfErr-handed}
use Rattle.fs_app_audit.specs.Audit.{of_anew, of_printed}
use Rattle.fs_app_audit.specs.inner.Made.{findings_of}
use Rattle.fs_app_audit.specs.declared.asked.Purpose.TheVariants.{Write}
use Rattle.fs_app_audit.proofs.FirstFaults.{audit-memory}
use Rattle.fs_app_audit.proofs.written.written_anew.Goals as goal

pub returns-in_err-found-clause-fault : goal.returns-in_err-found-clause-fault
returns-in_err-found-clause-fault c =
    IfErr-handed c.from_residual.result _ _ c.from_residual.ensures.1
    (λ file priced. of_anew (c.in_err-found.ensures.fault file priced))

pub returns-in_err-text-clause-fault : goal.returns-in_err-text-clause-fault
returns-in_err-text-clause-fault c =
    IfErr-handed c.from_residual-in_err-text.result _ _ c.from_residual-in_err-text.ensures.1
    (λ file priced. of_anew (audit-memory Write _ file c.args.limits.nodes _ c.in_err-text.ensures.err))

pub returns-clause-answer : goal.returns-clause-answer
returns-clause-answer c = λ file priced.
    of_printed (record {
      findings = findings_of c.in_ok-found.found;
      found = c.in_ok-found.ensures.found file priced;
      shown = c.in_ok-text.ensures.ok;
      ends = c.status_of.ensures;
    })
