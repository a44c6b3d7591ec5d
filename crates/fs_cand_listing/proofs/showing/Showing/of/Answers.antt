use Rattle.std.proofs.Common.{map, sym, subst}
use Rattle.std.specs.Arc.{arc_value}
use Rattle.fs_model.specs.declared.test.Test.{Test}
use Rattle.fs_cert_evidence.specs.CandidateFaults.{HasTooMany}
use Rattle.fs_hart.specs.Steps.{steps_in}
use Rattle.fs_values.specs.AllRuns.{HaveFinal}
use Rattle.fs_cand_listing.specs.RawCandidates.{AreAllRuns}
use Rattle.fs_cand_listing.specs.inner.Places.{AreListable}
use Rattle.fs_cand_listing.proofs.Composed.{all_of, final_of, listable_of, same_places}
use Rattle.fs_cand_listing.proofs.AllKept.{kept_all, kept_listing}
use Rattle.fs_cand_listing.proofs.showing.Showing.of.Goals as goal

pub check_few-requires-clause-runs : goal.check_few-requires-clause-runs
check_few-requires-clause-runs c =
    let t : Test = arc_value c.args.test in
    let lists = c.in_ok-lists.lists.items in
    subst (λ (u : Test). AreAllRuns u (map steps_in c.deref-3.result.now)) (sym c.deref-2.ensures)
    (subst (λ ls. AreAllRuns t (map steps_in ls)) (sym c.deref-3.ensures.value)
    (all_of c.deref.result.now t c.as_slice.result.now c.args.values.now lists c.deref.ensures c.as_slice.ensures c.requires.sets
    c.in_ok-lists.ensures.harts c.in_ok-lists.ensures.ok))

pub check_few-requires-clause-registers : goal.check_few-requires-clause-registers
check_few-requires-clause-registers c =
    let t : Test = arc_value c.args.test in
    let lists = c.in_ok-lists.lists.items in
    subst (λ (u : Test). HaveFinal u c.deref-3.result.now) (sym c.deref-2.ensures)
    (subst (HaveFinal t) (sym c.deref-3.ensures.value)
    (final_of c.deref.result.now t c.as_slice.result.now lists c.deref.ensures c.in_ok-lists.ensures.ok))

pub places-requires-clause-lists : goal.places-requires-clause-lists
places-requires-clause-lists c =
    subst (λ (u : Test). AreListable u c.deref-5.result.now) (sym c.deref-4.ensures)
    (subst (AreListable (arc_value c.args.test)) (sym c.deref-5.ensures.value) (listable_of c.deref.result.now (arc_value c.args.test) c.deref-2.result.now c.as_slice.result.now c.args.values.now c.in_ok-lists.lists.items
    c.deref.ensures c.deref-2.ensures c.as_slice.ensures c.requires.test c.requires.sets c.in_ok-lists.ensures.harts c.in_ok-lists.ensures.ok
    c.in_ok-check_few.ensures.clean))

pub invariant_of-result : goal.invariant_of-result
invariant_of-result c =
    let t : Test = arc_value c.args.test in
    let lists = c.in_ok-lists.lists.items in
    kept_all t lists c.in_ok-kept.kept.items (listable_of c.deref.result.now (arc_value c.args.test) c.deref-2.result.now c.as_slice.result.now c.args.values.now c.in_ok-lists.lists.items
    c.deref.ensures c.deref-2.ensures c.as_slice.ensures c.requires.test c.requires.sets c.in_ok-lists.ensures.harts c.in_ok-lists.ensures.ok
    c.in_ok-check_few.ensures.clean)
    (subst (λ (u : Test). HasTooMany u → ⊥) c.deref-2.ensures c.in_ok-check_few.ensures.clean)
    (same_places c.deref-4.result.now t c.deref-5.result.now lists c.in_ok-kept.kept.items c.deref-4.ensures c.deref-5.ensures.value c.in_ok-kept.ensures.ok)

pub returns-clause-ok : goal.returns-clause-ok
returns-clause-ok c =
    let t : Test = arc_value c.args.test in
    let lists = c.in_ok-lists.lists.items in
    kept_listing t lists c.in_ok-kept.kept.items (listable_of c.deref.result.now (arc_value c.args.test) c.deref-2.result.now c.as_slice.result.now c.args.values.now c.in_ok-lists.lists.items
    c.deref.ensures c.deref-2.ensures c.as_slice.ensures c.requires.test c.requires.sets c.in_ok-lists.ensures.harts c.in_ok-lists.ensures.ok
    c.in_ok-check_few.ensures.clean)
    (same_places c.deref-4.result.now t c.deref-5.result.now lists c.in_ok-kept.kept.items c.deref-4.ensures c.deref-5.ensures.value c.in_ok-kept.ensures.ok)
