use Rattle.std.proofs.Common.{arith, refl, ◌≡◌, ◌≢◌, ◌+◌, ◌-◌}
use Rattle.std.specs.Int.{trailing_zeros, w64}
use Rattle.fs_cand_witness.proofs.Bitwise.{put, put_alone, put_fits, lowest, lowest_common, lowest_taken, lowest_common_taken}
use Rattle.fs_cand_witness.proofs.Walk.{start, room, fits, same, trail, trail_small, short, pushed, popped, top_taken, idle, finished, linked}
use Rattle.fs_cand_witness.proofs.cycles.judge.Goals as goal

pub loop-unvisited-init : goal.loop-unvisited-init
loop-unvisited-init c = start _ _ _ _ _ c.ones_below-unvisited.ensures c.requires refl refl

pub returns : goal.returns
returns c = finished _ _ _ _ _ _ (omega arith) c.loop-unvisited.invariant

pub cycle-requires : goal.cycle-requires
cycle-requires c =
    let some : c.loop-unvisited.unvisited ≢ 0 = omega arith in
    let found = lowest c.loop-unvisited.unvisited some (omega arith) in
    trail _ _ _ _ _ _ _ _ _ _ _ c.loop-unvisited.invariant (lowest_taken c.loop-unvisited.unvisited some (omega arith)) (put_alone (trailing_zeros w64 c.loop-unvisited.unvisited) found.0)
    (λ i h. absurd (omega arith))
    (rw c.row.ensures at c.if-row-on_path-ne0.true) (omega arith)

pub returns-then-row-on_path-ne0 : goal.returns-then-row-on_path-ne0
returns-then-row-on_path-ne0 c =
    let some : c.loop-unvisited.unvisited ≢ 0 = omega arith in
    let found = lowest c.loop-unvisited.unvisited some (omega arith) in
    let take = lowest_taken c.loop-unvisited.unvisited some (omega arith) in
    let put_in = put_alone (trailing_zeros w64 c.loop-unvisited.unvisited) found.0 in
    c.cycle.ensures c.args.n (short _ _ _ _ _ _ _ _ _ _ _ c.loop-unvisited.invariant take put_in (λ i h. absurd (omega arith)))
    (trail_small _ _ _ _ _ _ _ _ _ _ _ c.loop-unvisited.invariant take put_in (λ i h. absurd (omega arith)))

pub walk-init : goal.walk-init
walk-init c =
    let some : c.loop-unvisited.unvisited ≢ 0 = omega arith in
    let found = lowest c.loop-unvisited.unvisited some (omega arith) in
    let take = lowest_taken c.loop-unvisited.unvisited some (omega arith) in
    let put_in = put_alone (trailing_zeros w64 c.loop-unvisited.unvisited) found.0 in (
      pushed _ _ _ _ _ _ _ _ _ _ _ c.loop-unvisited.invariant take put_in (λ i h. absurd (omega arith)) (rw c.row.ensures at c.if-row-on_path-ne0.false),
      (omega arith, (same _ _ _ _ _ _ _ _ _ _ _ c.loop-unvisited.invariant take put_in (λ i h. absurd (omega arith)), omega arith)),
    )

pub walk-preserved-then-next-eq0 : goal.walk-preserved-then-next-eq0
walk-preserved-then-next-eq0 c =
    let so_far = c.walk.invariant.0 in
    let take = top_taken _ _ _ _ _ _ _ _ _ so_far c.walk.invariant.1.0 c.walk.invariant.1.1.0 in (
      popped _ _ _ _ _ _ _ _ _ _ so_far c.walk.invariant.1.0 c.walk.invariant.1.1.0 (rw c.row-in-walk.ensures at c.if-next-eq0.true) take,
      (omega arith, (refl, omega (arith, c.walk.invariant.1.1.1))),
    )

pub loop-unvisited-preserved : goal.loop-unvisited-preserved
loop-unvisited-preserved c =
    let so_far = c.walk.invariant.0 in
    let take = top_taken _ _ _ _ _ _ _ _ _ so_far c.walk.invariant.1.0 c.walk.invariant.1.1.0 in
    idle _ _ _ _ _ _ _ _ c.if-len-eq0.true
    (popped _ _ _ _ _ _ _ _ _ _ so_far c.walk.invariant.1.0 c.walk.invariant.1.1.0 (rw c.row-in-walk.ensures at c.if-next-eq0.true) take)

pub bounds-path-len-else-next-eq0 : goal.bounds-path-len-else-next-eq0
bounds-path-len-else-next-eq0 c =
    let so_far = c.walk.invariant.0 in
    let take = lowest_common_taken c.row-in-walk.result c.walk.unvisited c.if-next-eq0.false (omega arith) in
    let found = lowest_common c.row-in-walk.result c.walk.unvisited c.if-next-eq0.false (omega arith) in
    fits _ _ _ _ _ _ _ _ _ _ _ so_far take (put c.walk.on_path _ found) (linked _ _ _ _ _ _ c.row-in-walk.ensures c.walk.invariant.1.1.0 c.if-next-eq0.false (omega arith))

pub cycle-requires-then-row-on_path-ne0-2 : goal.cycle-requires-then-row-on_path-ne0-2
cycle-requires-then-row-on_path-ne0-2 c =
    let so_far = c.walk.invariant.0 in
    let take = lowest_common_taken c.row-in-walk.result c.walk.unvisited c.if-next-eq0.false (omega arith) in
    let found = lowest_common c.row-in-walk.result c.walk.unvisited c.if-next-eq0.false (omega arith) in
    let link = linked c.args.rows.now c.walk.path c.walk.len c.walk.at c.row-in-walk.result c.walk.unvisited c.row-in-walk.ensures c.walk.invariant.1.1.0 c.if-next-eq0.false (omega arith) in
    trail _ _ _ _ _ _ _ _ _ _ _ so_far take (put c.walk.on_path _ found) link (rw c.row-else-next-eq0.ensures at c.if-row-on_path-ne0-2.true) (put_fits c.walk.on_path _ (omega arith))

pub returns-then-row-on_path-ne0-2 : goal.returns-then-row-on_path-ne0-2
returns-then-row-on_path-ne0-2 c =
    let so_far = c.walk.invariant.0 in
    let take = lowest_common_taken c.row-in-walk.result c.walk.unvisited c.if-next-eq0.false (omega arith) in
    let found = lowest_common c.row-in-walk.result c.walk.unvisited c.if-next-eq0.false (omega arith) in
    let link = linked c.args.rows.now c.walk.path c.walk.len c.walk.at c.row-in-walk.result c.walk.unvisited c.row-in-walk.ensures c.walk.invariant.1.1.0 c.if-next-eq0.false (omega arith) in
    c.cycle-then-row-on_path-ne0-2.ensures c.args.n (short _ _ _ _ _ _ _ _ _ _ _ so_far take (put c.walk.on_path _ found) link)
    (trail_small _ _ _ _ _ _ _ _ _ _ _ so_far take (put c.walk.on_path _ found) link)

pub walk-smaller : goal.walk-smaller
walk-smaller c =
    let so_far = c.walk.invariant.0 in
    let take = lowest_common_taken c.row-in-walk.result c.walk.unvisited c.if-next-eq0.false (omega arith) in
    let found = lowest_common c.row-in-walk.result c.walk.unvisited c.if-next-eq0.false (omega arith) in
    let link = linked c.args.rows.now c.walk.path c.walk.len c.walk.at c.row-in-walk.result c.walk.unvisited c.row-in-walk.ensures c.walk.invariant.1.1.0 c.if-next-eq0.false (omega arith) in
    omega (arith, room _ _ _ _ _ _ _ _ _ _ _ so_far take (put c.walk.on_path _ found) link)

pub walk-preserved : goal.walk-preserved
walk-preserved c =
    let so_far = c.walk.invariant.0 in
    let take = lowest_common_taken c.row-in-walk.result c.walk.unvisited c.if-next-eq0.false (omega arith) in
    let found = lowest_common c.row-in-walk.result c.walk.unvisited c.if-next-eq0.false (omega arith) in
    let link = linked c.args.rows.now c.walk.path c.walk.len c.walk.at c.row-in-walk.result c.walk.unvisited c.row-in-walk.ensures c.walk.invariant.1.1.0 c.if-next-eq0.false (omega arith) in
    let end : c.walk.len + 1 - 1 ≡ c.walk.len = omega arith in (
      pushed _ _ _ _ _ _ _ _ _ _ _ so_far take (put c.walk.on_path _ found) link (rw c.row-else-next-eq0.ensures at c.if-row-on_path-ne0-2.false),
      (omega arith, (rw end (same _ _ _ _ _ _ _ _ _ _ _ so_far take (put c.walk.on_path _ found) link), omega (arith, c.walk.invariant.1.1.1))),
    )
