use Rattle.std.proofs.Common.{arith, ◌≢◌, ◌∙◌, inl, inr}
use Rattle.std.proofs.lemmas.List.{length-set}
use Rattle.std.proofs.lemmas.Bool.{cases_lt}
use Rattle.fs_cand_witness.specs.Edges.{has_edge, has_bit}
use Rattle.fs_cand_witness.proofs.Bitwise.{lowest, lowest_taken, count_taken}
use Rattle.fs_cand_witness.proofs.Each.{each_step, all_taken, none_past}
use Rattle.fs_cand_witness.proofs.rows.Rows.add_to_each.Goals as goal

pub loop-left-smaller : goal.loop-left-smaller
loop-left-smaller c =
    let some : c.loop-left.left ≢ 0 = omega arith in
    let found = lowest c.loop-left.left some (omega arith) in
    omega (arith, count_taken c.loop-left.left _ _ 64 found.0 (omega arith) (lowest_taken c.loop-left.left some (omega arith)))

pub loop-left-preserved : goal.loop-left-preserved
loop-left-preserved c =
    let some : c.loop-left.left ≢ 0 = omega arith in
    let found = lowest c.loop-left.left some (omega arith) in
    let take = lowest_taken c.loop-left.left some (omega arith) in (
      length-set c.loop-left.self-inside.rows _ _ ∙ c.loop-left.invariant.0,
      (
        λ x h. c.loop-left.invariant.1.0 x (take.less x h),
        λ x y low. each_step c.loop-left.self-inside.rows c.self.inside.rows c.args.from c.loop-left.left _ c.args.to _ x y c.loop-left.invariant.0 take found.0
            (c.loop-left.invariant.1.0 _ found.1) low (c.loop-left.invariant.1.1 x y low),
      ),
    )

pub returns : goal.returns
returns c = λ x y. rw (← c.self.view_is) (elim (cases_lt x 64) [
  | inl low ↦ c.loop-left.invariant.1.1 x y low ∙ all_taken (has_edge c.self.inside.rows x y) (has_bit c.args.from x) (has_bit c.args.to y) c.loop-left.left x (omega arith)
  | inr high ↦ none_past c.loop-left.self-inside.rows c.self.inside.rows c.args.from c.args.to x y c.loop-left.invariant.0 (omega arith) (omega arith) high
])
