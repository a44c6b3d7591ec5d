use Rattle.std.proofs.Common.{◌≡◌, ◌∙◌, [], ◌∷◌, List, map, sym, ap, subst}
use Rattle.std.specs.Prelude.{slice_range}
use Rattle.std.proofs.lemmas.List.Elements.{All-nil, All-push}
use Rattle.fs_cert_evidence.specs.Refusals.{first_wrong}
use Rattle.fs_cert_evidence.specs.Inferences.{inference_of}
use Rattle.fs_cert_evidence.specs.declared.inference.Inference.{Inference}
use Rattle.fs_region_refutation.specs.Views.{region_of, AreOf, IsOf}
use Rattle.fs_region_refutation.specs.inner.Stacks.{stacked}
use Rattle.fs_region_refutation.proofs.Stacks.{stacked_push}
use Rattle.fs_region_refutation.proofs.Walked.{none_to}
use Rattle.fs_region_refutation.proofs.Joined.{map_range}
use Rattle.fs_region_refutation.proofs.subtrees.Subtrees.is_refuted.Goals as goal

pub reason_from-requires : goal.reason_from-requires
reason_from-requires c =
    let t = c.args.self.now.basis.now in
    subst (AreOf t) (sym c.in_ok-push.ensures.items)
    (All-push (IsOf t) c.new-regions.result.items c.in_ok-shared.field-0
    (subst (AreOf t) (sym c.new-regions.ensures.items) (All-nil (IsOf t)))
    (c.in_ok-shared.ensures.of t c.requires))

pub returns-in-None : goal.returns-in-None
returns-in-None c none =
    let t = c.args.self.now.basis.now in
    let p = c.args.self.now.placement.now in
    let subtree = c.args.subtree.now in
    let is = map inference_of c.args.self.now.inferences.now in
    let one : stacked c.push.new.self.items ≡ region_of subtree.region ∷ [] =
    ap stacked c.in_ok-push.ensures.items ∙ stacked_push c.new-regions.result.items c.in_ok-shared.field-0
    ∙ ap (λ region. region ∷ stacked c.new-regions.result.items) c.in_ok-shared.ensures.region
    ∙ ap (λ below. region_of subtree.region ∷ stacked below) c.new-regions.ensures.items in
    let own : map inference_of c.in-Some.inferences.now ≡ slice_range is subtree.from subtree.to =
    ap (map inference_of) c.in-Some.ensures.lookup.0.2
    ∙ ap (λ (xs : List Inference). map inference_of (slice_range xs subtree.from subtree.to)) c.deref.ensures
    ∙ sym (map_range inference_of c.args.self.now.inferences.now subtree.from subtree.to) in
    none_to t p (region_of subtree.region ∷ []) (slice_range is subtree.from subtree.to) 0
    (ap (λ regions. first_wrong t p regions (slice_range is subtree.from subtree.to) 0) (sym one)
    ∙ ap (λ own. first_wrong t p (stacked c.push.new.self.items) own 0) (sym own)
    ∙ sym c.in_ok-reason_from.ensures ∙ c.in-None.is)
