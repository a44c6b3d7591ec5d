use Rattle.std.proofs.Common.{◌≢◌, ◌∙◌, inl, inr, sym, ap, arith}
use Rattle.std.specs.Int.{trailing_zeros, w64}
use Rattle.std.proofs.lemmas.Bool.{cases_Bool, both_ways}
use Rattle.fs_cand_witness.specs.Edges.{has_bit}
use Rattle.fs_cand_witness.proofs.Bitwise.{lowest, lowest_taken, count_taken, edge}
use Rattle.fs_cand_witness.specs.inner.Keeping.{are_ordered}
use Rattle.fs_cand_witness.proofs.Keeping.{ordered_at, ordered_from}
use Rattle.fs_cand_witness.proofs.Words.{all_in, one_out, one_less, none_left}
use Rattle.fs_cand_witness.proofs.widths.are_ordered.Goals as goal

pub returns-then-row-second-ne0 : goal.returns-then-row-second-ne0
returns-then-row-second-ne0 c =
    let rows = c.args.rows.now in
    let some : c.loop-left.left ≢ 0 = omega arith in
    let found = lowest c.loop-left.left some (omega arith) in
    let a = trailing_zeros w64 c.loop-left.left in
    let missing = one_out c.row.result c.args.second (omega arith) (omega arith) c.if-row-second-ne0.true in
    let b = missing.0 in
    elim (cases_Bool (are_ordered rows c.args.first c.args.second)) [
      | inr fails ↦ sym fails
      | inl all ↦ absurd (both_ways (has_bit c.row.result b) missing.3 (ap (λ row. has_bit row b) c.row.ensures
          ∙ ordered_at rows c.args.first c.args.second a b all found.0 missing.1 (edge c.args.first a (c.loop-left.invariant.0 a found.1)) missing.2))
    ]

pub loop-left-smaller : goal.loop-left-smaller
loop-left-smaller c =
    let some : c.loop-left.left ≢ 0 = omega arith in
    let found = lowest c.loop-left.left some (omega arith) in
    omega (arith, count_taken c.loop-left.left _ _ 64 found.0 (omega arith) (lowest_taken c.loop-left.left some (omega arith)))

pub loop-left-preserved : goal.loop-left-preserved
loop-left-preserved c =
    let rows = c.args.rows.now in
    let some : c.loop-left.left ≢ 0 = omega arith in
    let take = lowest_taken c.loop-left.left some (omega arith) in (
      (λ a there. c.loop-left.invariant.0 a (take.less a there)),
      (λ a b low low' there gone there'. one_less rows c.args.first c.args.second c.loop-left.left _ _ a b take low low' there gone there'
          (c.loop-left.invariant.1 a b low low' there)
          (ap (λ row. has_bit row b) (sym c.row.ensures) ∙ all_in c.row.result c.args.second b (omega arith) c.if-row-second-ne0.false low' there')),
    )

pub returns : goal.returns
returns c = sym (ordered_from c.args.rows.now c.args.first c.args.second (λ a b low low' there there'.
    c.loop-left.invariant.1 a b low low' there (none_left c.loop-left.left a (omega arith)) there'))
