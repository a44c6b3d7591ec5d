use Rattle.std.proofs.Common.{◌≡◌, ℕ, ◌≤◌, Bool, true, false, length, sym, ◌∙◌, ap, arith}
use Rattle.std.specs.List.{list_all}
use Rattle.std.proofs.lemmas.Bool.{and_from}
use Rattle.std.proofs.lemmas.List.{take_all}
use Rattle.std.proofs.lemmas.List.Folds.{list_all_at, list_all_more}
use Rattle.fs_cert_evidence.specs.Judged.{Cause, is_edge}
use Rattle.fs_cand.specs.Candidates.{candidate_of, runs_of}
use Rattle.fs_check_certificate.proofs.Looked.{steps_along, first_step, steps_long, edge_at}
use Rattle.fs_check_certificate.proofs.cycles.have_edges.Goals as goal

pub returns-then-not-is_edge : goal.returns-then-not-is_edge
returns-then-not-is_edge c = λ words made.
    let candidate = c.args.candidate.now in
    let ns = c.args.numbers.now in
    let links = c.args.links.now in
    let k = c.loop-place.place in
    let edge : (ℕ × ℕ) × Cause → Bool = λ step. is_edge (runs_of candidate words) c.args.placement.now (candidate_of candidate) step.0.0 step.0.1 step.1 in
    let fails : c.is_edge.result ≡ false = grind (arith, c.if-not-is_edge.true) in
    sym (list_all_at edge (steps_along ns links) k first_step (omega (arith, steps_long ns links c.requires, c.loop-place-test.true))
    (edge_at (runs_of candidate words) c.args.placement.now (candidate_of candidate) ns links k _ _ _ c.requires c.loop-place-test.true c.follower-next.ensures
    (c.is_edge.ensures words made) ∙ fails))

pub loop-place-preserved : goal.loop-place-preserved
loop-place-preserved c = λ words made.
    let candidate = c.args.candidate.now in
    let ns = c.args.numbers.now in
    let links = c.args.links.now in
    let k = c.loop-place.place in
    let edge : (ℕ × ℕ) × Cause → Bool = λ step. is_edge (runs_of candidate words) c.args.placement.now (candidate_of candidate) step.0.0 step.0.1 step.1 in
    let passes : c.is_edge.result ≡ true = grind (arith, c.if-not-is_edge.false) in
    list_all_more edge (steps_along ns links) k first_step (omega (arith, steps_long ns links c.requires, c.loop-place-test.true))
    ∙ and_from _ _ (c.loop-place.invariant words made)
    (edge_at (runs_of candidate words) c.args.placement.now (candidate_of candidate) ns links k _ _ _ c.requires c.loop-place-test.true c.follower-next.ensures
    (c.is_edge.ensures words made) ∙ passes)

pub returns : goal.returns
returns c = λ words made.
    let candidate = c.args.candidate.now in
    let steps = steps_along c.args.numbers.now c.args.links.now in
    let edge : (ℕ × ℕ) × Cause → Bool = λ step. is_edge (runs_of candidate words) c.args.placement.now (candidate_of candidate) step.0.0 step.0.1 step.1 in
    let past : length steps ≤ c.loop-place.place = omega (arith, steps_long c.args.numbers.now c.args.links.now c.requires, c.loop-place-test.false) in
    sym (ap (list_all edge) (sym (take_all c.loop-place.place steps past)) ∙ c.loop-place.invariant words made)
