use Rattle.std.proofs.Common.{arith, ◌≡◌, ◌≢◌, ◌+◌, ◌-◌, ◌<◌, ◌/◌, ◌^◌, ℕ, get_or, bit_and, add_assoc, add-zero, true}
use Rattle.std.specs.Int.{bit_at}
use Rattle.std.proofs.lemmas.Nat.Bits.{shr_and_one, bit_at-lt}
use Rattle.fs_cand_witness.specs.Edges.{has_edge}
use Rattle.fs_cand_witness.proofs.Listed.{cycle_below}
use Rattle.fs_cand_witness.proofs.Bitwise.{edge}
use Rattle.fs_cand_witness.proofs.cycles.cycle.Goals as goal

-- the test of a bit
tested : (row x : ℕ) → bit_and (row / 2 ^ x) 1 ≢ 0 → bit_at row x ≡ 1
tested row x some = let e = shr_and_one row x in omega (arith, some, bit_at-lt row x)

pub loop-start-init : goal.loop-start-init
loop-start-init c =
    let last : c.args.len - 1 + 1 ≡ c.args.len = omega (arith, c.requires.some) in
    let found = c.requires.back (c.args.len - 1) last in
    (omega (arith, c.requires.some), (found.0, omega (arith, found.1), found.2))

pub returns : goal.returns
returns c = λ n short small.
    let low = c.loop-start.invariant.0 in
    let back : has_edge c.args.rows.now (get_or c.args.path.now (c.args.len - 1) 0) (get_or c.args.path.now c.loop-start.start 0) ≡ true =
    rw (← c.row-row.ensures) (edge c.row-row.result (get_or c.args.path.now c.loop-start.start 0) (tested c.row-row.result (get_or c.args.path.now c.loop-start.start 0) c.loop-start-test.false)) in (
      omega (arith, short),
      cycle_below _ _ _ _ (omega (arith, c.requires.fits)) (record {
        some = omega (arith, low);
        fits = omega (arith, short);
        below = λ i h. rw (c.cut.ensures i h) (small (c.loop-start.start + i) (omega arith));
        next = λ i h.
            let here : i < c.args.len - c.loop-start.start = omega arith in
            let after : i + 1 < c.args.len - c.loop-start.start = omega arith in
            rw (c.cut.ensures i here, c.cut.ensures (i + 1) after, ← add_assoc c.loop-start.start i 1) (c.requires.next (c.loop-start.start + i) (omega arith));
        back = λ i h.
            let here : i < c.args.len - c.loop-start.start = omega arith in
            let first : 0 < c.args.len - c.loop-start.start = omega arith in
            let end : c.loop-start.start + i ≡ c.args.len - 1 = omega (arith, low) in
            rw (c.cut.ensures i here, c.cut.ensures 0 first, add-zero c.loop-start.start, end) back;
      }),
    )
