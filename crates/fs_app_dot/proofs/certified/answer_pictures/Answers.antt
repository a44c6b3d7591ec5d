use Rattle.std.proofs.Common.{◌∙◌, IfOk, ap, map, string_bytes, subst, sym}
use Rattle.std.specs.List.{AllZip}
use Rattle.fs_cert_evidence.specs.Certificate.{Fenced}
use Rattle.fs_cert_evidence.specs.WitnessFile.{KeepsWitness}
use Rattle.fs_cert_json.specs.Kept.{answer_of}
use Rattle.fs_app_why.specs.Why.{HasRunFault}
use Rattle.fs_app_why.proofs.Faults.{of_answer_or}
use Rattle.fs_app_dot.specs.Told.{AreOfAnswer}
use Rattle.fs_app_dot.proofs.certified.answer_pictures.Goals as goal

pub returns-in-NoneForbids-clause-told : goal.returns-in-NoneForbids-clause-told
returns-in-NoneForbids-clause-told c said keeps =
    subst (λ a. IfOk c.first_pictures.result (λ pictures.
    AreOfAnswer c.args.title.now c.args.telling c.args.test.now a said.cycles said.witnesses pictures.items))
    (sym (keeps.answer ∙ ap answer_of c.in-NoneForbids.is)) (c.first_pictures.ensures.told c.args.telling said.cycles said.witnesses
    (subst (λ files. AllZip KeepsWitness files said.witnesses) (sym c.as_slice.ensures) keeps.witnesses))

pub returns-in-Fenced-clause-fault : goal.returns-in-Fenced-clause-fault
returns-in-Fenced-clause-fault c = λ said keeps.
    let cost = c.in-Fenced.cost in
    of_answer_or c.args.test.now (HasRunFault c.args.test.now) c.fenced_pictures.result said.answer cost
    (map string_bytes c.as_slice-in-Fenced.result.now)
    (keeps.answer ∙ ap answer_of c.in-Fenced.is ∙ ap (λ words. Fenced cost (map string_bytes words)) (sym c.as_slice-in-Fenced.ensures))
    c.fenced_pictures.ensures.fault
