use Rattle.std.proofs.Common.{◌∙◌, sym, arith}
use Rattle.std.proofs.lemmas.Option.{slice_get_within}
use Rattle.fs_cand_witness.proofs.Widening.{all_passed, all_stay, all_tried, first_passed, first_tried, made_still, wider_still}
use Rattle.fs_cand_witness.proofs.widen.widened.Goals.{then-is_among, else-is_among, then-not-is_among, else-not-is_among}
use Rattle.fs_cand_witness.proofs.widen.widened.Goals as goal

pub loop-side-preserved : goal.loop-side-preserved
loop-side-preserved c = elim c.if-is_among.branch [
  | then-is_among w ↦ rw w.wider-is (
      let new = w.with_sides-wider.ensures in (
        wider_still c.args.n c.args.rows.now _ _ c.loop-side.invariant.0 new.wider,
        made_still c.args.n c.args.sides.now c.args.first.now c.loop-side.side-index _ c.loop-side-test.true c.args.rows.now _ _ new.wider.kept c.loop-side.invariant.1 new.made,
        first_tried c.args.n c.args.sides.now c.args.first.now c.loop-side.side-index _ c.loop-side-test.true _ _ new.wider.kept new.tried c.loop-side.invariant.2,
      ))
  | else-is_among w ↦ rw w.wider-is (
    c.loop-side.invariant.0,
    c.loop-side.invariant.1,
    first_passed c.args.n c.args.sides.now c.args.first.now c.loop-side.side-index _ c.loop-side-test.true _ (sym c.is_among.ensures ∙ w.if-is_among.false) c.loop-side.invariant.2,
  )
]

pub loop-side-2-init : goal.loop-side-2-init
loop-side-2-init c = (
  c.loop-side.invariant.0,
  c.loop-side.invariant.1,
  λ k other there asked. c.loop-side.invariant.2 k other (let low = slice_get_within c.args.sides.now k other there in omega (arith, low, c.loop-side-test.false)) there asked,
  λ k other low there. absurd (omega (arith, low)),
)

pub loop-side-2-preserved : goal.loop-side-2-preserved
loop-side-2-preserved c = elim c.if-not-is_among.branch [
  | then-not-is_among w ↦ rw w.wider-is (
      let new = w.with_sides-wider-then-not-is_among.ensures in (
        wider_still c.args.n c.args.rows.now _ _ c.loop-side-2.invariant.0 new.wider,
        made_still c.args.n c.args.sides.now c.args.first.now c.loop-side-2.side-index _ c.loop-side-2-test.true c.args.rows.now _ _ new.wider.kept c.loop-side-2.invariant.1 new.made,
        λ k other there asked. all_stay c.args.n _ _ new.wider.kept other (c.loop-side-2.invariant.2 k other there asked),
        all_tried c.args.n c.args.sides.now c.args.first.now c.loop-side-2.side-index _ c.loop-side-2-test.true _ _ new.wider.kept new.tried c.loop-side-2.invariant.3,
      ))
  | else-not-is_among w ↦ rw w.wider-is (
    c.loop-side-2.invariant.0,
    c.loop-side-2.invariant.1,
    c.loop-side-2.invariant.2,
    all_passed c.args.n c.args.sides.now c.args.first.now c.loop-side-2.side-index _ c.loop-side-2-test.true _
        (sym c.is_among-in-loop-side-2.ensures ∙ w.if-not-is_among.false) c.loop-side-2.invariant.2 c.loop-side-2.invariant.3,
  )
]

pub returns-clause-widest : goal.returns-clause-widest
returns-clause-widest c = λ k side there.
    c.loop-side-2.invariant.3 k side (let low = slice_get_within c.args.sides.now k side there in omega (arith, low, c.loop-side-2-test.false)) there
