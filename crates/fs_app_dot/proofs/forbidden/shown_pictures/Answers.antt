use Rattle.std.proofs.Common.{◌≡◌, ◌∙◌, List, [], ap, map, refl, subst, sym}
use Rattle.std.specs.Arc.{arc_value}
use Rattle.std.proofs.lemmas.Result.{IfOk-weaker}
use Rattle.fs_cert_evidence.specs.Certificate.{Inferred}
use Rattle.fs_cert_evidence.specs.Inferences.{cycles_of, inference_of}
use Rattle.fs_cert_evidence.specs.Valid.{Forbid}
use Rattle.fs_cert_evidence.specs.declared.evidence.Cycles.{Cycles}
use Rattle.fs_cert_evidence.specs.declared.inference.Inference.{Inference}
use Rattle.fs_app_why.specs.Forbidden.{AreKinds}
use Rattle.fs_app_dot.proofs.forbidden.shown_pictures.Goals as goal

pub returns-in-Listed-clause-told : goal.returns-in-Listed-clause-told
returns-in-Listed-clause-told c =
    let t = arc_value c.args.test.now in
    let p = c.args.placement.now in
    record {
      cycles = cycles_of c.args.cycles.now;
      kinds = [];
      shows = c.requires.shows;
      are_kinds = subst (λ (cycles : Cycles). AreKinds t p (cycles_of cycles) []) (sym c.in-Listed.is) refl;
      drawn = c.new.ensures.items;
    }

pub returns-in-Inferred-clause-told : goal.returns-in-Inferred-clause-told
returns-in-Inferred-clause-told c =
    let inferences = c.as_slice.result.now in
    let same : cycles_of c.args.cycles.now ≡ Inferred (map inference_of inferences) =
    ap cycles_of c.in-Inferred.is
    ∙ ap (λ (those : List Inference). Inferred (map inference_of those)) (sym c.as_slice.ensures) in
    IfOk-weaker c.inferred_pictures.result _ _
    (λ pictures told. record {
      cycles = Inferred (map inference_of inferences);
      kinds = told.0;
      shows = subst (Forbid (arc_value c.args.test.now) c.args.placement.now) same c.requires.shows;
      are_kinds = told.1;
      drawn = told.2;
    })
    c.inferred_pictures.ensures.told
