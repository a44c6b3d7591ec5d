use Rattle.std.proofs.Common.{◌≡◌, ℕ, List, length}
use Rattle.std.specs.List.{list_any}
use Rattle.fs_kinds.specs.declared.placement.Entry.{Entry}
use Rattle.fs_model.specs.Numbers.{numbers_below}
use Rattle.fs_model.specs.Operations.{steps_of}
use Rattle.fs_ppo.specs.Rules.{OfRuns}
use Rattle.fs_cand_witness.specs.Fencing.{orders_at}
use Rattle.fs_cand_witness.specs.inner.Halves.{orders_before_step}
use Rattle.fs_cand_witness.proofs.points.sides_of.Given as goal

-- the sides of the harts so far
abbrev pub invariant-loop-hart : goal.invariant-loop-hart
invariant-loop-hart l = OfRuns l.candidate (λ x. (p : List Entry) (a b : ℕ)
    → list_any (orders_at p a b) l.sides.items
    ≡ list_any (λ h. list_any (orders_before_step x p h a b) (numbers_below (length (steps_of x.traces h)))) (numbers_below l.hart))
