use Rattle.std.proofs.Common.{◌∙◌}
use Rattle.fs_app_place_and_order.proofs.Faults.{IfErr-handed}
use Rattle.fs_app_audit.specs.Audit.{of_memory}
use Rattle.fs_app_audit.specs.inner.Made.{findings_of}
use Rattle.fs_app_audit_json_and_why.proofs.OfFindings.{of_possible}
use Rattle.fs_app_audit_json_and_why.proofs.answered.answer_anew.Goals as goal

pub returns-in_err-output_anew-clause-fault : goal.returns-in_err-output_anew-clause-fault
returns-in_err-output_anew-clause-fault c =
    IfErr-handed c.from_residual-in_err-output_anew.result _ _ c.from_residual-in_err-output_anew.ensures.1 (λ given priced. of_memory)

pub returns-clause-answer : goal.returns-clause-answer
returns-clause-answer c = λ given priced. (
    let made = c.in_ok-output_anew.ensures in
    of_possible c.args.name.now c.args.bytes.now given _ _ _ _ (findings_of c.in_ok-found.found)
    (c.in_ok-found.ensures.found given priced) c.in_ok-found.ensures.kind made.text made.status
    (made.kind ∙ c.in_ok-found.ensures.kind) made.saved
    )
