use Rattle.std.proofs.Common.{◌||◌, ◌&&◌, ◌==◌, ◌∙◌, ap, arith}
use Rattle.std.proofs.lemmas.List.{length-set}
use Rattle.fs_cand_witness.specs.Edges.{has_edge}
use Rattle.fs_cand_witness.proofs.Bits.{has_edge-join, join_step}
use Rattle.fs_cand_witness.proofs.rows.Rows.union.Goals as goal

pub loop-a-preserved : goal.loop-a-preserved
loop-a-preserved c = (
  length-set c.loop-a.self-inside.rows c.loop-a.a _ ∙ c.loop-a.invariant.0,
  λ x y.
      has_edge-join c.loop-a.self-inside.rows c.other.inside.rows c.loop-a.a x y (omega arith)
      ∙ ap (λ b. b || ((x == c.loop-a.a) && has_edge c.other.inside.rows x y)) (c.loop-a.invariant.1 x y)
      ∙ join_step x c.loop-a.a (has_edge c.self.inside.rows x y) (has_edge c.other.inside.rows x y),
)
