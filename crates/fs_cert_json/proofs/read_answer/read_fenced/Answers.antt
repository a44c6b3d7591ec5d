use Rattle.std.proofs.Common.{sym}
use Rattle.serde_json.specs.View.{view}
use Rattle.fs_kinds.specs.declared.fault.Fault.TheVariants.{BadCertificate}
use Rattle.fs_cert_json.proofs.Handed.{fault-handed}
use Rattle.fs_cert_json.proofs.Parts.{no_fences}
use Rattle.fs_cert_json.proofs.read_answer.read_fenced.Goals as goal

pub returns-in_err-fences-clause-bad : goal.returns-in_err-fences-clause-bad
returns-in_err-fences-clause-bad c =
    fault-handed c.from_residual.result _ BadCertificate c.from_residual.ensures.1 (λ is.
    no_fences (view c.args.value.now) (view c.in-Some-get.words.now) c.requires (sym c.in-Some-get.ensures) (c.in_err-fences.ensures.bad is))
