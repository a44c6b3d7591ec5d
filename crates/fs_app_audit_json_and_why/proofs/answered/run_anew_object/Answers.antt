use Rattle.fs_app_place_and_order.proofs.Faults.{IfErr-handed}
use Rattle.fs_app_audit.specs.Audit.{of_memory}
use Rattle.fs_app_audit.specs.inner.Made.{findings_of}
use Rattle.fs_app_audit_json_and_why.proofs.OfFindings.{of_findings}
use Rattle.fs_app_audit_json_and_why.proofs.answered.run_anew_object.Goals as goal

pub returns-in_err-output_anew-clause-fault : goal.returns-in_err-output_anew-clause-fault
returns-in_err-output_anew-clause-fault c =
    IfErr-handed c.from_residual-in_err-output_anew.result _ _ c.from_residual-in_err-output_anew.ensures.1 of_memory

pub returns-clause-answer : goal.returns-clause-answer
returns-clause-answer c =
    let made = c.in_ok-output_anew.ensures in
    of_findings c.args.name.now c.args.test.now c.args.prices.now _ _ _ 0 (findings_of c.in_ok-found.found)
    c.in_ok-found.ensures.found made.text made.status made.kind
