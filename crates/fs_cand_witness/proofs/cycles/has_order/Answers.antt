use Rattle.std.proofs.Common.{arith, refl, ◌≡◌, ◌≢◌, ◌+◌, ◌-◌, replicate}
use Rattle.std.specs.Int.{trailing_zeros, w64}
use Rattle.fs_cand_witness.proofs.Bitwise.{put, put_alone, put_fits, lowest, lowest_common, lowest_taken, lowest_common_taken}
use Rattle.fs_cand_witness.proofs.Walk.{start, fewer, fits, same, trail, trail_small, short, long, pushed, popped, top_taken, idle, finished, linked, closed}
use Rattle.fs_cand_witness.proofs.cycles.has_order.Goals as goal

pub loop-unvisited-init : goal.loop-unvisited-init
loop-unvisited-init c = record {
  order = replicate 64 0;
  left = c.args.n;
  walk = start _ _ _ _ _ c.ones_below-unvisited.ensures c.requires refl refl;
}

pub returns-clause-ordered : goal.returns-clause-ordered
returns-clause-ordered c = λ _. (_, finished _ _ _ _ _ _ (omega arith) c.loop-unvisited.invariant.walk)

pub returns-then-row-on_path-ne0-clause-cyclic : goal.returns-then-row-on_path-ne0-clause-cyclic
returns-then-row-on_path-ne0-clause-cyclic c = λ _.
    let walk = c.loop-unvisited.invariant.walk in
    let some : c.loop-unvisited.unvisited ≢ 0 = omega arith in
    let take = lowest_taken c.loop-unvisited.unvisited some (omega arith) in
    let found = lowest c.loop-unvisited.unvisited some (omega arith) in
    let put_in = put_alone (trailing_zeros w64 c.loop-unvisited.unvisited) found.0 in
    closed _ _ _ _ (trail_small _ _ _ _ _ _ _ _ _ _ _ walk take put_in (λ i h. absurd (omega arith))) (trail _ _ _ _ _ _ _ _ _ _ _ walk take put_in (λ i h. absurd (omega arith)) (rw c.row.ensures at c.if-row-on_path-ne0.true) (omega arith))
    (short _ _ _ _ _ _ _ _ _ _ _ walk take put_in (λ i h. absurd (omega arith))) (long _ _ _ _ _ _ _ _ _ _ _ walk take put_in (λ i h. absurd (omega arith))) c.requires

pub walk-init : goal.walk-init
walk-init c =
    let walk = c.loop-unvisited.invariant.walk in
    let some : c.loop-unvisited.unvisited ≢ 0 = omega arith in
    let take = lowest_taken c.loop-unvisited.unvisited some (omega arith) in
    let found = lowest c.loop-unvisited.unvisited some (omega arith) in
    let put_in = put_alone (trailing_zeros w64 c.loop-unvisited.unvisited) found.0 in (
      record {
        order = c.loop-unvisited.invariant.order;
        left = c.loop-unvisited.invariant.left;
        walk = pushed _ _ _ _ _ _ _ _ _ _ _ walk take put_in (λ i h. absurd (omega arith)) (rw c.row.ensures at c.if-row-on_path-ne0.false);
      },
      (omega arith, (same _ _ _ _ _ _ _ _ _ _ _ walk take put_in (λ i h. absurd (omega arith)), omega arith)),
    )

pub loop-unvisited-smaller : goal.loop-unvisited-smaller
loop-unvisited-smaller c =
    let walk = c.loop-unvisited.invariant.walk in
    let some : c.loop-unvisited.unvisited ≢ 0 = omega arith in
    let take = lowest_taken c.loop-unvisited.unvisited some (omega arith) in
    let found = lowest c.loop-unvisited.unvisited some (omega arith) in
    let put_in = put_alone (trailing_zeros w64 c.loop-unvisited.unvisited) found.0 in
    omega (arith, fewer _ _ _ _ _ _ _ _ _ _ _ walk take put_in (λ i h. absurd (omega arith)), c.walk.invariant.1.1.1)

pub loop-unvisited-preserved : goal.loop-unvisited-preserved
loop-unvisited-preserved c =
    let walk = c.walk.invariant.0.walk in
    let take = top_taken _ _ _ _ _ _ _ _ _ walk c.walk.invariant.1.0 c.walk.invariant.1.1.0 in
    record {
      order = _;
      left = _;
      walk = idle _ _ _ _ _ _ _ _ c.if-len-eq0.true
          (popped _ _ _ _ _ _ _ _ _ _ walk c.walk.invariant.1.0 c.walk.invariant.1.1.0 (rw c.row-in-walk.ensures at c.if-next-eq0.true) take);
    }

pub walk-preserved-then-next-eq0 : goal.walk-preserved-then-next-eq0
walk-preserved-then-next-eq0 c =
    let walk = c.walk.invariant.0.walk in
    let take = top_taken _ _ _ _ _ _ _ _ _ walk c.walk.invariant.1.0 c.walk.invariant.1.1.0 in (
      record {
        order = _;
        left = _;
        walk = popped _ _ _ _ _ _ _ _ _ _ walk c.walk.invariant.1.0 c.walk.invariant.1.1.0 (rw c.row-in-walk.ensures at c.if-next-eq0.true) take;
      },
      (omega arith, (refl, c.walk.invariant.1.1.1)),
    )

pub bounds-path-len-else-next-eq0 : goal.bounds-path-len-else-next-eq0
bounds-path-len-else-next-eq0 c =
    let walk = c.walk.invariant.0.walk in
    let take = lowest_common_taken c.row-in-walk.result c.walk.unvisited c.if-next-eq0.false (omega arith) in
    let put_in = put c.walk.on_path _ (lowest_common c.row-in-walk.result c.walk.unvisited c.if-next-eq0.false (omega arith)) in
    let link = linked c.args.rows.now c.walk.path c.walk.len c.walk.at c.row-in-walk.result c.walk.unvisited c.row-in-walk.ensures c.walk.invariant.1.1.0 c.if-next-eq0.false (omega arith) in
    fits _ _ _ _ _ _ _ _ _ _ _ walk take put_in link

pub returns-then-row-on_path-ne0-2-clause-cyclic : goal.returns-then-row-on_path-ne0-2-clause-cyclic
returns-then-row-on_path-ne0-2-clause-cyclic c = λ _.
    let walk = c.walk.invariant.0.walk in
    let take = lowest_common_taken c.row-in-walk.result c.walk.unvisited c.if-next-eq0.false (omega arith) in
    let put_in = put c.walk.on_path _ (lowest_common c.row-in-walk.result c.walk.unvisited c.if-next-eq0.false (omega arith)) in
    let link = linked c.args.rows.now c.walk.path c.walk.len c.walk.at c.row-in-walk.result c.walk.unvisited c.row-in-walk.ensures c.walk.invariant.1.1.0 c.if-next-eq0.false (omega arith) in
    closed _ _ _ _ (trail_small _ _ _ _ _ _ _ _ _ _ _ walk take put_in link) (trail _ _ _ _ _ _ _ _ _ _ _ walk take put_in link (rw c.row-else-next-eq0.ensures at c.if-row-on_path-ne0-2.true) (put_fits c.walk.on_path _ (omega arith)))
    (short _ _ _ _ _ _ _ _ _ _ _ walk take put_in link) (long _ _ _ _ _ _ _ _ _ _ _ walk take put_in link) c.requires

pub walk-smaller : goal.walk-smaller
walk-smaller c =
    let walk = c.walk.invariant.0.walk in
    let take = lowest_common_taken c.row-in-walk.result c.walk.unvisited c.if-next-eq0.false (omega arith) in
    let put_in = put c.walk.on_path _ (lowest_common c.row-in-walk.result c.walk.unvisited c.if-next-eq0.false (omega arith)) in
    let link = linked c.args.rows.now c.walk.path c.walk.len c.walk.at c.row-in-walk.result c.walk.unvisited c.row-in-walk.ensures c.walk.invariant.1.1.0 c.if-next-eq0.false (omega arith) in
    omega (arith, fewer _ _ _ _ _ _ _ _ _ _ _ walk take put_in link)

pub walk-preserved : goal.walk-preserved
walk-preserved c =
    let walk = c.walk.invariant.0.walk in
    let take = lowest_common_taken c.row-in-walk.result c.walk.unvisited c.if-next-eq0.false (omega arith) in
    let put_in = put c.walk.on_path _ (lowest_common c.row-in-walk.result c.walk.unvisited c.if-next-eq0.false (omega arith)) in
    let link = linked c.args.rows.now c.walk.path c.walk.len c.walk.at c.row-in-walk.result c.walk.unvisited c.row-in-walk.ensures c.walk.invariant.1.1.0 c.if-next-eq0.false (omega arith) in
    let end : c.walk.len + 1 - 1 ≡ c.walk.len = omega arith in (
      record {
        order = c.walk.invariant.0.order;
        left = c.walk.invariant.0.left;
        walk = pushed _ _ _ _ _ _ _ _ _ _ _ walk take put_in link (rw c.row-else-next-eq0.ensures at c.if-row-on_path-ne0-2.false);
      },
      (omega arith, (rw end (same _ _ _ _ _ _ _ _ _ _ _ walk take put_in link), omega (arith, fewer _ _ _ _ _ _ _ _ _ _ _ walk take put_in link, c.walk.invariant.1.1.1))),
    )
