use Rattle.fs_app_place_and_order.proofs.Faults.{IfErr-handed}
use Rattle.fs_app_audit.specs.Audit.{of_anew, of_memory}
use Rattle.fs_app_audit_json_and_why.proofs.OfFindings.{of_none}
use Rattle.fs_app_audit_json_and_why.proofs.answered.answer_vacuous.Goals as goal

pub returns-in_err-output_vacuous-clause-fault : goal.returns-in_err-output_vacuous-clause-fault
returns-in_err-output_vacuous-clause-fault c =
    IfErr-handed c.from_residual.result _ _ c.from_residual.ensures.1 (λ given priced limit. of_anew of_memory)

pub returns-clause-answer : goal.returns-clause-answer
returns-clause-answer c = λ given priced. (
    let made = c.in_ok-output_vacuous.ensures in
    of_none c.args.name.now c.args.bytes.now given _ _ _ _ c.args.own.now c.args.prices.now c.args.why.now
    c.requires.tested.0 c.requires.reads priced c.requires.tested.1 made.text made.status made.kind made.saved
    )
