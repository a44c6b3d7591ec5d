use Rattle.std.proofs.Common.{◌≡◌, ◌++◌, ◌∷◌, [], refl, sym, ap, subst, ◌∙◌}
use Rattle.fs_cert_json.specs.declared.certificate.CertifiedCycles.TheVariants.{Inferred}
use Rattle.fs_cert.specs.inner.Copies.{AreCopiedWitnesses}
use Rattle.fs_cert.proofs.Made.{none_certifies}
use Rattle.fs_cert.proofs.certified.from_witness.Goals as goal

pub returns : goal.returns
returns c = λ t offers e listed witness refutes.
    let w = c.args.witness.now.witness in
    let file = c.in_ok-witness_of.field-0 in
    let only : c.new-5.result ≡ file ∷ [] =
    c.new-5.ensures ∙ (c.in_ok-push.ensures.items ∙ ap (λ l. l ++ file ∷ []) c.new-witnesses.ensures.items) in
    none_certifies t offers _ w e refl refl (ap (λ inferences. Inferred inferences) (c.new-2.ensures ∙ c.new.ensures.items)) (c.new-4.ensures ∙ c.new-3.ensures.items)
    (subst (λ l. AreCopiedWitnesses l (w ∷ [])) (sym only) (c.in_ok-witness_of.ensures, tt)) witness.shows.0 listed refutes
