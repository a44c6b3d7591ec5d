use Rattle.std.proofs.Common.{◌≡◌, ◌∙◌, ◌<◌, Some, length, sym, ap, subst, arith, IfOk}
use Rattle.std.specs.Prelude.{slice_get}
use Rattle.std.specs.Arc.{arc_value}
use Rattle.std.proofs.lemmas.List.{length-map}
use Rattle.fs_model.specs.declared.test.Test.{Test}
use Rattle.fs_cand.specs.Candidates.{candidate_of}
use Rattle.fs_cand_listing.specs.Showing.{Listed}
use Rattle.fs_cand_listing.specs.inner.Places.{runs_at, numbered_with, candidate_at, CanBePrepared, IsPlace}
use Rattle.fs_cand_listing.proofs.Composed.{got}
use Rattle.fs_cand_listing.proofs.Preparing.{can_be_prepared}
use Rattle.fs_cand_listing.proofs.showing.Showing.get.Goals as goal

pub returns-clause-ok : goal.returns-clause-ok
returns-clause-ok c =
    let t : Test = arc_value c.self.inside.test in
    let lists = c.self.inside.lists.items in
    let kept = c.self.inside.kept.items in
    let p = c.index-place.result.now in
    let k = c.args.k in
    let traces = c.in_ok-prepared.prepared.traces in
    let all = ap (λ (s : Listed). length s.candidates) c.self.view_is in
    let long = length-map kept (candidate_at t lists) in
    let low : k < length kept = omega (arith, c.requires, all, long) in
    subst (λ cs. IfOk c.candidate.result (λ made. slice_get cs k ≡ Some (candidate_of made))) (ap (λ (s : Listed). s.candidates) c.self.view_is)
    (got t lists kept k p traces c.candidate.result low c.index-place.ensures
    (c.in_ok-prepared.ensures.runs ∙ c.in_ok-traces.ensures ∙ ap (λ ls. runs_at ls p.runs) c.deref.ensures.value)
    (subst (λ (u : Test). IfOk c.candidate.result (λ made. candidate_of made ≡ numbered_with u traces p.chosen)) c.deref-3.ensures c.candidate.ensures.ok))

pub of-requires-clause-runs : goal.of-requires-clause-runs
of-requires-clause-runs c =
    let t : Test = arc_value c.self.inside.test in
    let lists = c.self.inside.lists.items in
    let kept = c.self.inside.kept.items in
    let p = c.index-place.result.now in
    let all = ap (λ (s : Listed). length s.candidates) c.self.view_is in
    let long = length-map kept (candidate_at t lists) in
    let low : c.args.k < length kept = omega (arith, c.requires, all, long) in
    let place : IsPlace t lists p = subst (IsPlace t lists) (sym c.index-place.ensures) (c.self.invariant.places c.args.k p low) in
    let listable = c.self.invariant.listable in
    subst (λ (u : Test). CanBePrepared u c.in_ok-traces.traces) (sym c.deref-2.ensures)
    (subst (CanBePrepared t) (sym (c.in_ok-traces.ensures ∙ ap (λ ls. runs_at ls p.runs) c.deref.ensures.value))
    (can_be_prepared t lists listable.bounded listable.all listable.final p.runs place.runs))
