use Rattle.std.proofs.Common.{◌∙◌, IfOk, ap, map, string_bytes, subst, sym}
use Rattle.std.specs.List.{AllZip}
use Rattle.fs_cert_evidence.specs.Certificate.{Fenced}
use Rattle.fs_cert_evidence.specs.WitnessFile.{KeepsWitness}
use Rattle.fs_cert_json.specs.Kept.{answer_of}
use Rattle.fs_app_why.specs.Why.{HasRunFault, TellsAnswer}
use Rattle.fs_app_why.proofs.Faults.{of_answer_or}
use Rattle.fs_app_why.proofs.answered.answer_text.Goals as goal

pub returns-in-NoneForbids-clause-told : goal.returns-in-NoneForbids-clause-told
returns-in-NoneForbids-clause-told c said keeps =
    subst (λ a. IfOk c.first_text.result (λ text. TellsAnswer c.args.telling c.args.test.now a said.cycles said.witnesses (string_bytes text)))
    (sym (keeps.answer ∙ ap answer_of c.in-NoneForbids.is)) (c.first_text.ensures.told c.args.telling said.cycles said.witnesses
    (subst (λ files. AllZip KeepsWitness files said.witnesses) (sym c.as_slice.ensures) keeps.witnesses))

pub returns-in-Fenced-clause-fault : goal.returns-in-Fenced-clause-fault
returns-in-Fenced-clause-fault c = λ said keeps.
    let cost = c.in-Fenced.cost in
    of_answer_or c.args.test.now (HasRunFault c.args.test.now) c.fenced_text.result said.answer cost
    (map string_bytes c.as_slice-in-Fenced.result.now)
    (keeps.answer ∙ ap answer_of c.in-Fenced.is ∙ ap (λ words. Fenced cost (map string_bytes words)) (sym c.as_slice-in-Fenced.ensures))
    c.fenced_text.ensures.fault
