use Rattle.std.proofs.Common.{List, ap, map, subst, ◌∙◌}
use Rattle.fs_kinds.specs.declared.placement.Entry.{Entry}
use Rattle.fs_model.specs.declared.test.Test.{Test}
use Rattle.fs_cert_evidence.specs.Inferences.{inference_of}
use Rattle.fs_cert_evidence.specs.Trees.{IsRefuted}
use Rattle.fs_values.specs.ThinAir.{CanBeListed}
use Rattle.fs_sites.specs.Questions.{Part, image}
use Rattle.fs_sites_check.proofs.Walks.{refuted}
use Rattle.fs_sites_check.proofs.refuted.is_refuted.Goals as goal

pub returns-clause-ok : goal.returns-clause-ok
returns-clause-ok c holds =
    let is = map inference_of c.args.inferences.now in
    let test = ap (λ (part : Part). part.test) c.part.view_is in
    let same = c.in_ok-basis.ensures.value ∙ test in
    let there = c.in_ok-fences.ensures.ok ∙ ap (λ ps. image ps c.args.placement.now) (c.deref.ensures ∙ ap (λ (part : Part). part.places) c.part.view_is) in (
      subst CanBeListed test c.in_ok-basis.ensures.listable,
      subst (λ (t : Test). IsRefuted t (image c.args.part.now.places c.args.placement.now) is) same
          (subst (λ (p : List Entry). IsRefuted c.in_ok-basis.basis p is) there
          (refuted c.in_ok-basis.basis c.in_ok-fences.fences is c.in_ok-reason_against.field-0 c.in-None.is c.in_ok-reason_against.ensures.exact)),
    )
