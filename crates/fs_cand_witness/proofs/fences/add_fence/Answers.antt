use Rattle.std.proofs.Common.{◌≡◌, ◌||◌, Bool, true, false, Some, refl, sym, ◌∙◌}
use Rattle.fs_kinds.specs.Kind.{orders}
use Rattle.fs_kinds.specs.Placement.{kind_at}
use Rattle.fs_cand_witness.specs.Edges.{has_edge, has_bit}
use Rattle.fs_cand_witness.specs.Fencing.{before, after, orders_at}
use Rattle.fs_cand_witness.proofs.Orders.{by_first}
use Rattle.fs_cand_witness.proofs.fences.add_fence.Goals as goal

or_assoc : (u v w : Bool) → ((u || v) || w) ≡ (u || (v || w))
or_assoc true v w = refl
or_assoc false v w = refl

pub returns-in-Some : goal.returns-in-Some
returns-in-Some c = λ a b.
    let sides = c.args.sides.now in
    let placed : kind_at sides.slot c.args.placement.now ≡ Some c.in-Some.kind = sym c.get.ensures ∙ c.in-Some.is in
    let ordered : orders_at c.args.placement.now a b sides ≡ orders c.in-Some.kind (before sides a) (after sides b) = rw placed refl in
    rw (
      c.add_to_each-in-Some.ensures a b,
      c.add_to_each.ensures a b,
      c.ordered_after.ensures b,
      c.ordered_after-in-Some.ensures b,
      ordered,
      by_first c.in-Some.kind (has_bit sides.reads_before a) (has_bit sides.writes_before a) (has_bit sides.reads_after b) (has_bit sides.writes_after b),
    )
    (or_assoc (has_edge c.args.rows.now a b) _ _)
