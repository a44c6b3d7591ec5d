use Rattle.serde_json.specs.View.{view, items_view}
use Rattle.fs_kinds.specs.declared.fault.Fault.TheVariants.{BadCertificate}
use Rattle.fs_cert_evidence.specs.Inferences.{inference_of}
use Rattle.fs_cert_json.proofs.Handed.{fault-handed}
use Rattle.fs_cert_json.proofs.Inferences.{is_said, lettered, unlettered}
use Rattle.fs_cert_json.proofs.read_inferences.read_inference.Goals as goal

pub returns-in_err-read_links-clause-bad : goal.returns-in_err-read_links-clause-bad
returns-in_err-read_links-clause-bad c =
    fault-handed c.from_residual.result _ BadCertificate c.from_residual.ensures.1 (λ is.
    unlettered (view c.args.value.now) c.in_default.ensures (c.in_err-read_links.ensures.bad is))

pub returns-in-Some-inference_in-clause-ok : goal.returns-in-Some-inference_in-clause-ok
returns-in-Some-inference_in-clause-ok c =
    is_said (view c.args.value.now) c.in-Some.letter.now (items_view c.in-Some.others.now)
    (inference_of c.in-Some-inference_in.inference) c.in-Some.ensures c.in-Some-inference_in.ensures

pub returns-in-None-clause-bad : goal.returns-in-None-clause-bad
returns-in-None-clause-bad c =
    λ _. lettered (view c.args.value.now) c.in-Some.letter.now (items_view c.in-Some.others.now) c.in-Some.ensures
    c.in-None.ensures
