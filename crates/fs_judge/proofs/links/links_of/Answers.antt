use Rattle.std.proofs.Common.{◌≡◌, ℕ, List, ◌<◌, ◌≤◌, true, length, sym, ◌∙◌, subst, arith}
use Rattle.std.specs.Prelude.{slice_index}
use Rattle.fs_model.specs.Execution.{initial_words}
use Rattle.fs_cert_evidence.specs.Candidates.{runs_of}
use Rattle.fs_cert_evidence.specs.Judged.{is_judged}
use Rattle.fs_cert_evidence.specs.Certificate.{Link}
use Rattle.fs_cert_evidence.specs.Cycles.{IsCycle}
use Rattle.fs_cand.specs.Candidates.{candidate_of}
use Rattle.fs_judge.specs.inner.Links.{IsLink, followers}
use Rattle.fs_judge.proofs.Linked.{longer, more, low_at, edge_at, cycle_of, judged_edges}
use Rattle.fs_judge.proofs.links.links_of.Goals as goal

pub loop-place-preserved : goal.loop-place-preserved
loop-place-preserved c = record {
  long = longer c.loop-place.links.items _ c.link.result c.loop-place.place c.loop-place.invariant.long c.in_ok-push.ensures.items;
  each = λ t made raw rows.
      let candidate = candidate_of c.args.candidate.now in
      let x = runs_of t candidate in
      let p = c.args.placement.now in
      let ns = c.args.cycle.now in
      let k = c.loop-place.place in
      let low : k < length ns = omega arith in
      let all = judged_edges t p candidate c.args.rows.now ns rows c.requires.cycle.edges in
      let edge : is_judged x p candidate (slice_index ns k) (slice_index (followers ns) k) ≡ true = edge_at (is_judged x p candidate) ns k all low in
      let here = low_at t p candidate raw ns all k low in
      let a : c.from-a.result ≡ slice_index ns k = c.from-a.ensures in
      let b : c.from-b.result ≡ slice_index (followers ns) k = c.from-b.ensures ∙ c.follower.ensures in
      let linked : IsLink x p candidate (slice_index ns k) (slice_index (followers ns) k) c.link.result =
      subst (λ (z : ℕ). IsLink x p candidate z (slice_index (followers ns) k) c.link.result) a
      (subst (λ (z : ℕ). IsLink x p candidate c.from-a.result z c.link.result) b
      (c.link.ensures (initial_words t) made (rw a here) (rw (a, b) edge))) in
      more (λ (i : ℕ) (link : Link). IsLink x p candidate (slice_index ns i) (slice_index (followers ns) i) link) c.loop-place.links.items _ c.link.result k
      c.loop-place.invariant.long c.in_ok-push.ensures.items (c.loop-place.invariant.each t made raw rows) linked;
}

pub returns-clause-ok : goal.returns-clause-ok
returns-clause-ok c = λ t made raw rows.
    let candidate = candidate_of c.args.candidate.now in
    let ns = c.args.cycle.now in
    let whole : c.loop-place.place ≡ length ns = omega arith in
    let most : length ns ≤ 64 = omega arith in
    subst (λ (links : List Link). IsCycle t c.args.placement.now candidate links) (sym c.new.ensures)
    (cycle_of t c.args.placement.now candidate ns c.loop-place.links.items c.requires.cycle.some most (c.loop-place.invariant.long ∙ whole)
    (c.loop-place.invariant.each t made raw rows))
