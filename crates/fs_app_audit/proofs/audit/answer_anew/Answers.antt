use Rattle.std.proofs.Common.{◌∙◌}
use Rattle.fs_app_place_and_order.proofs.Faults.{IfErr-handed}
use Rattle.fs_app_audit.specs.Audit.{of_allowed, of_memory}
use Rattle.fs_app_audit.specs.inner.Made.{findings_of}
use Rattle.fs_app_audit.proofs.audit.answer_anew.Goals as goal

pub returns-in_err-found_anew-clause-fault : goal.returns-in_err-found_anew-clause-fault
returns-in_err-found_anew-clause-fault c =
    IfErr-handed c.from_residual-in_err-found_anew.result _ _ c.from_residual-in_err-found_anew.ensures.1 (λ file priced. of_memory)

pub returns-clause-answer : goal.returns-clause-answer
returns-clause-answer c = λ file priced.
    of_allowed
    (record {
      findings = findings_of c.in_ok-found.found;
      found = c.in_ok-found.ensures.found file priced;
      shown = c.in_ok-found_anew.ensures.text;
      ends = c.in_ok-found_anew.ensures.status;
    })
    c.in_ok-found.ensures.kind
    (c.in_ok-found_anew.ensures.kind ∙ c.in_ok-found.ensures.kind)
    c.in_ok-found_anew.ensures.saved
