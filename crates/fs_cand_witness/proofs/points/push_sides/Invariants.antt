use Rattle.std.proofs.Common.{◌≡◌, ℕ, ◌||◌, List}
use Rattle.std.specs.List.{list_any}
use Rattle.fs_kinds.specs.declared.placement.Entry.{Entry}
use Rattle.fs_model.specs.Numbers.{numbers_below}
use Rattle.fs_ppo.specs.Rules.{OfRuns}
use Rattle.fs_cand_witness.specs.Fencing.{orders_at}
use Rattle.fs_cand_witness.specs.inner.Halves.{orders_before_step}
use Rattle.fs_cand_witness.proofs.points.push_sides.Given as goal

-- the sides of the steps so far
abbrev pub invariant-loop-place : goal.invariant-loop-place
invariant-loop-place l = OfRuns l.candidate (λ x. (p : List Entry) (a b : ℕ)
    → list_any (orders_at p a b) l.sides.items
    ≡ (list_any (orders_at p a b) l.initial.sides.items || list_any (orders_before_step x p l.hart a b) (numbers_below l.place)))
