use Rattle.std.proofs.Common.{get_or, ◌≢◌, ap, ◌∙◌, ◌++◌, ◌∷◌, [], refl, sym, subst, arith}
use Rattle.std.specs.Prelude.{slice_get}
use Rattle.fs_model_laws.proofs.Places.{at-end}
use Rattle.fs_cert.specs.inner.Copies.{IsCopiedWitness, AreCopiedWitnesses}
use Rattle.fs_cert.proofs.Zips.{zip_push}
use Rattle.fs_cert.specs.Certified.{AreDistinct}
use Rattle.std.proofs.lemmas.List.Quantifiers.{all_pairs_push}
use Rattle.std.proofs.lemmas.Option.{slice_get-get_or}
use Rattle.fs_cert.proofs.Copying.{as_long}
use Rattle.fs_cert.proofs.numbered.add.Goals as goal

pub returns-clause-number : goal.returns-clause-number
returns-clause-number c = λ ws each.
    let old = c.args.files.now.items in
    let w = c.args.witness.now.witness in
    let file = c.in_ok-witness_of.field-0 in
    let long = as_long IsCopiedWitness old ws each in (
      w ∷ [],
      subst (λ files. AreCopiedWitnesses files (ws ++ w ∷ [])) (sym c.in_ok-push.ensures.items)
          (zip_push IsCopiedWitness old ws file w each c.in_ok-witness_of.ensures),
      (at-end ws (w ∷ []) c.len-number.result 0 w (omega (arith, c.len-number.ensures, long)) refl, omega arith),
    )

pub returns-clause-once : goal.returns-clause-once
returns-clause-once c = λ distinct.
    let old = c.args.files.now.items in
    let w = c.args.witness.now.witness in
    let file = c.in_ok-witness_of.field-0 in
    subst AreDistinct (sym c.in_ok-push.ensures.items)
    (all_pairs_push (λ f g. f ≢ g) old file distinct
    (λ k d low same. c.in_default.ensures.none k (get_or old k d) (ap (λ fs. slice_get fs k) c.deref.ensures.value ∙ slice_get-get_or old k d low)
    (subst (λ f. IsCopiedWitness f w) (sym same) c.in_ok-witness_of.ensures)))
