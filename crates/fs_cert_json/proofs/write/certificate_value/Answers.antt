use Rattle.std.proofs.Common.{◌∙◌, ap, map, subst}
use Rattle.std.proofs.lemmas.Result.{IfOk-weaker}
use Rattle.serde_json.specs.View.{view}
use Rattle.fs_cert_evidence.specs.Texts.{array_of, item_value}
use Rattle.fs_cert_json.specs.Kept.{item_of}
use Rattle.fs_cert_json.specs.inner.Written.{WritesWitnesses, certificate_object}
use Rattle.fs_cert_json.proofs.Texts.{whole_certificate}
use Rattle.fs_cert_json.proofs.write.certificate_value.Goals as goal

pub returns : goal.returns
returns c =
    let answer = view c.in_ok-answer.answer in
    let cycles = view c.in_ok-cycles.cycles in
    let tree = view c.in_ok-tree.tree in
    let witnesses = view c.in_ok-witnesses.witnesses in
    IfOk-weaker c.certificate_object.result _ _ (λ v is said keeps names.
    is ∙ ap (λ n. certificate_object answer cycles tree n witnesses) c.version_number-version.ensures
    ∙ whole_certificate c.args.certificate.now said answer cycles tree witnesses keeps names c.in_ok-answer.ensures
    c.in_ok-cycles.ensures
    (c.in_ok-tree.ensures ∙ ap (λ l. array_of (map item_value (map item_of l))) c.as_slice.ensures)
    (subst (WritesWitnesses witnesses) c.as_slice-2.ensures c.in_ok-witnesses.ensures)) c.certificate_object.ensures
