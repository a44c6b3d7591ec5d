use Rattle.std.proofs.Common.{refl, sym, subst, map}
use Rattle.serde_json.specs.View.{view}
use Rattle.fs_kinds.specs.declared.fault.Fault.TheVariants.{BadCertificate}
use Rattle.fs_cert_evidence.specs.Inferences.{inference_of}
use Rattle.fs_cert_evidence.specs.Certificate as said
use Rattle.fs_cert_evidence.specs.CertificateFile.{AreCycles}
use Rattle.fs_cert_json.specs.Kept.{version_of}
use Rattle.fs_cert_json.proofs.Handed.{fault-handed}
use Rattle.fs_cert_json.proofs.Parts.{are_cycles, no_cycles, no_inferences}
use Rattle.fs_cert_json.proofs.read.read_cycles.Goals as goal

pub returns-in_err-read_listed-in-First-clause-bad : goal.returns-in_err-read_listed-in-First-clause-bad
returns-in_err-read_listed-in-First-clause-bad c =
    fault-handed c.from_residual.result _ BadCertificate c.from_residual.ensures.1 (λ is.
    no_cycles c.args.version (view c.args.value.now) c.in-First.is (c.in_err-read_listed-in-First.ensures.bad is))

pub returns-in_err-read_inferences-in-Fourth-clause-bad : goal.returns-in_err-read_inferences-in-Fourth-clause-bad
returns-in_err-read_inferences-in-Fourth-clause-bad c =
    fault-handed c.from_residual-in_err-read_inferences-in-Fourth.result _ BadCertificate
    c.from_residual-in_err-read_inferences-in-Fourth.ensures.1 (λ is.
    no_inferences c.args.version (view c.args.value.now) c.in-Fourth.is
    (c.in_err-read_inferences-in-Fourth.ensures.bad is))

pub returns-in_ok-read_listed-in-First-clause-ok : goal.returns-in_ok-read_listed-in-First-clause-ok
returns-in_ok-read_listed-in-First-clause-ok c =
    let cycles = c.in_ok-read_listed-in-First.ensures.ok in
    (said.Listed cycles.0, are_cycles c.args.version (view c.args.value.now) cycles.0 c.in-First.is cycles.1, cycles.2)

pub returns-in_ok-read_inferences-in-Fourth-clause-ok : goal.returns-in_ok-read_inferences-in-Fourth-clause-ok
returns-in_ok-read_inferences-in-Fourth-clause-ok c =
    let inferences = map inference_of c.in_ok-read_inferences-in-Fourth.field-0 in (
      said.Inferred inferences,
      subst (λ version. AreCycles (version_of version) (view c.args.value.now) (said.Inferred inferences))
          (sym c.in-Fourth.is) c.in_ok-read_inferences-in-Fourth.ensures.ok,
      refl,
    )
