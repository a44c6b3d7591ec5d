use Rattle.std.proofs.Common.{List, ◌∙◌, sym, subst}
use Rattle.std.specs.List.{AllZip}
use Rattle.fs_cert_evidence.specs.declared.witness.WitnessFile.{WitnessFile}
use Rattle.fs_cert_evidence.specs.WitnessFile.{KeepsWitness}
use Rattle.fs_check_certificate.specs.Leaves.{AreShown}
use Rattle.fs_check_certificate.proofs.Judged.{decides_all}
use Rattle.fs_check_certificate.proofs.unforbidden.refutes_all.Goals as goal

pub returns-clause-ok : goal.returns-clause-ok
returns-clause-ok c said keeps =
    let t = c.args.test.now in
    let kept = subst (λ (files : List WitnessFile). AllZip KeepsWitness files said.witnesses) (sym c.deref-2.ensures) keeps.witnesses in
    let shown = subst (AreShown t said.witnesses) (sym c.deref-4.ensures.value) (c.in_ok-shown.ensures.ok said.witnesses kept) in
    decides_all t said.witnesses c.refutes.result c.deref-3.result.now c.deref.result.now (c.deref-3.ensures ∙ c.in_ok-part.ensures)
    (c.deref.ensures.value ∙ c.in_ok-slots.ensures.ok) (λ same. c.refutes.ensures t said.witnesses c.requires.test same shown)
