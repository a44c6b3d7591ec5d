use Rattle.std.proofs.Common.{◌∙◌, ap, map, subst}
use Rattle.std.proofs.lemmas.Result.{IfOk-weaker}
use Rattle.serde_json.specs.View.{view}
use Rattle.fs_cert_evidence.specs.Texts.{array_of}
use Rattle.fs_cert_json.specs.inner.Written.{WritesNames, choices_value}
use Rattle.fs_cert_json.proofs.Texts.{whole_witness}
use Rattle.fs_cert_json.proofs.write_witnesses.witness_value.Goals as goal

pub returns : goal.returns
returns c =
    IfOk-weaker c.witness_object.result _ _ (λ v is w keeps names.
    is
    ∙ whole_witness c.args.witness.now w (view c.in_ok-choices.choices) (view c.in_ok-order.order) keeps names
    (c.in_ok-choices.ensures ∙ ap (λ l. array_of (map choices_value l)) c.as_slice.ensures)
    (subst (WritesNames (view c.in_ok-order.order)) c.as_slice-2.ensures c.in_ok-order.ensures)) c.witness_object.ensures
