use Rattle.serde_json.specs.View.{view}
use Rattle.fs_kinds.specs.declared.fault.Fault.TheVariants.{BadCertificate}
use Rattle.fs_cert_json.specs.Kept.{version_of}
use Rattle.fs_cert_json.proofs.Handed.{fault-handed}
use Rattle.fs_cert_json.proofs.Parts.{no_bounds, no_witness}
use Rattle.fs_cert_json.proofs.read_tree.read_leaf.Goals as goal

pub returns-in_err-witnesses-clause-bad : goal.returns-in_err-witnesses-clause-bad
returns-in_err-witnesses-clause-bad c =
    fault-handed c.from_residual.result _ BadCertificate c.from_residual.ensures.1 (λ is.
    no_bounds (version_of c.args.version) (view c.args.letter.now) (view c.args.argument.now) (λ p. let yes' = c.is_text.ensures.1 p in let no' = c.if-is_text.false in absurd (cc)) (c.in_err-witnesses.ensures.bad is))

pub returns-then-is_empty-clause-bad : goal.returns-then-is_empty-clause-bad
returns-then-is_empty-clause-bad c =
    λ _.
    no_witness (version_of c.args.version) (view c.args.letter.now) (view c.args.argument.now) c.in_ok-witnesses.witnesses (λ p. let yes' = c.is_text.ensures.1 p in let no' = c.if-is_text.false in absurd (cc)) c.in_ok-witnesses.ensures.ok (cc)
