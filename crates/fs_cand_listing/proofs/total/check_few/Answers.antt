use Rattle.std.proofs.Common.{◌+◌, ◌≤◌, refl, arith}
use Rattle.fs_cert_evidence.specs.CandidateFaults.{most_candidates}
use Rattle.fs_cand_listing.specs.Ways.{product_of_lengths}
use Rattle.fs_cand_listing.proofs.Capped.{past_limit, in_limit}
use Rattle.fs_cand_listing.proofs.Totals.{too_many_runs, too_many_raw, total_more, few_enough}
use Rattle.fs_cand_listing.proofs.total.check_few.Goals as goal

pub returns-then-runs-gt-MOST_CANDIDATES-clause-err :
    goal.returns-then-runs-gt-MOST_CANDIDATES-clause-err
returns-then-runs-gt-MOST_CANDIDATES-clause-err c = λ other. (
  refl,
  too_many_runs c.args.test.now c.args.lists.now c.requires.runs
      (past_limit (product_of_lengths c.args.lists.now) c.count_choices-runs.result c.count_choices-runs.ensures.exact c.if-runs-gt-MOST_CANDIDATES.true),
)

pub returns-then-total-gt-MOST_CANDIDATES-clause-err :
    goal.returns-then-total-gt-MOST_CANDIDATES-clause-err
returns-then-total-gt-MOST_CANDIDATES-clause-err c = λ other.
    let lists = c.args.lists.now in
    let all = in_limit (product_of_lengths lists) c.count_choices-runs.result c.count_choices-runs.ensures.exact
    (omega (arith, c.if-runs-gt-MOST_CANDIDATES.false)) in (
      refl,
      too_many_raw c.args.test.now lists c.requires.runs c.loop-number.number c.loop-number.total c.in_ok-total.field-0
          (omega (arith, all, c.loop-number-test.true)) c.loop-number.invariant.0 c.in_ok-total.ensures.ok
          (omega (arith, c.if-total-gt-MOST_CANDIDATES.true)),
    )

pub loop-number-preserved : goal.loop-number-preserved
loop-number-preserved c =
    let lists = c.args.lists.now in
    let all = in_limit (product_of_lengths lists) c.count_choices-runs.result c.count_choices-runs.ensures.exact
    (omega (arith, c.if-runs-gt-MOST_CANDIDATES.false)) in
    let few : c.loop-number.total + c.in_ok-total.field-0 ≤ most_candidates = omega (arith, c.if-total-gt-MOST_CANDIDATES.false) in (
      total_more c.args.test.now lists c.loop-number.number c.loop-number.total c.in_ok-total.field-0
          (omega (arith, all, c.loop-number-test.true)) c.loop-number.invariant.0 c.in_ok-total.ensures.ok few,
      few,
    )

pub returns-clause-clean : goal.returns-clause-clean
returns-clause-clean c =
    let lists = c.args.lists.now in
    let all = in_limit (product_of_lengths lists) c.count_choices-runs.result c.count_choices-runs.ensures.exact
    (omega (arith, c.if-runs-gt-MOST_CANDIDATES.false)) in
    few_enough c.args.test.now lists c.requires.runs c.loop-number.number c.loop-number.total
    (omega (arith, all, c.if-runs-gt-MOST_CANDIDATES.false)) (omega (arith, all, c.loop-number-test.false))
    c.loop-number.invariant.0 c.loop-number.invariant.1
