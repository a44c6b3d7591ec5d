use Rattle.std.proofs.Common.{◌≡◌, ◌∙◌, ◌≤◌, false, sym, subst}
use Rattle.fs_model_axioms.specs.Final.{AreFinal}
use Rattle.fs_cert_evidence.specs.CandidateFaults.{most_candidates}
use Rattle.fs_hart.specs.Steps.{steps_in}
use Rattle.fs_cand_listing.specs.RawCandidates.{candidate}
use Rattle.fs_cand_listing.specs.ShowingTests.{has_outcome}
use Rattle.fs_cand_listing.specs.inner.Places.{runs_at, count_with, CanBePrepared}
use Rattle.fs_cand_listing.proofs.AllKept.{few_with}
use Rattle.fs_cand_listing.proofs.Kept.{nothing_added}
use Rattle.fs_cand_listing.proofs.Preparing.{can_be_prepared}
use Rattle.fs_cand_listing.proofs.showing.add_places.Goals as goal

pub may_show-requires : goal.may_show-requires
may_show-requires c =
    let t = c.args.test.now in
    let lists = c.requires.lists in
    let can = can_be_prepared t c.args.lists.now lists.bounded lists.all lists.final c.args.number c.requires.number in
    subst (AreFinal t) (sym (c.as_slice.ensures ∙ c.in_ok-traces.ensures)) can.final

pub of-requires-clause-runs : goal.of-requires-clause-runs
of-requires-clause-runs c =
    let t = c.args.test.now in
    let lists = c.requires.lists in
    subst (CanBePrepared t) (sym c.in_ok-traces.ensures)
    (can_be_prepared t c.args.lists.now lists.bounded lists.all lists.final c.args.number c.requires.number)

pub add_showing-requires-clause-few : goal.add_showing-requires-clause-few
add_showing-requires-clause-few c =
    let t = c.args.test.now in
    let lists = c.args.lists.now in
    subst (λ ts. count_with t ts ≤ most_candidates) (sym (c.in_ok-prepared.ensures.runs ∙ c.in_ok-traces.ensures))
    (few_with t lists c.requires.lists.all c.requires.few c.args.number c.requires.number)

pub returns-then-not-may_show-clause-ok : goal.returns-then-not-may_show-clause-ok
returns-then-not-may_show-clause-ok c =
    let t = c.args.test.now in
    nothing_added c.args.number t (runs_at c.args.lists.now c.args.number) c.args.kept.now.items (λ sources orders.
    subst (λ ts. has_outcome t (candidate (steps_in ts) sources orders) ≡ false) (c.as_slice.ensures ∙ c.in_ok-traces.ensures)
    (c.may_show.ensures c.if-not-may_show.true sources orders))
