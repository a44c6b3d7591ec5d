use Rattle.std.proofs.Common.{◌≡◌, ◌++◌, ◌+◌, ◌-◌}
use Rattle.std.specs.List.{flat_map, range_with_len}
use Rattle.fs_region_refutation.specs.Views.{runs_of}
use Rattle.fs_app_why.specs.Fences.{ordering, ordering_at}
use Rattle.fs_app_why.proofs.fences.ordering.Given as goal

-- the fences so far, and those to come
abbrev pub invariant-loop-at : goal.invariant-loop-at
invariant-loop-at l =
    l.fences.items ++ flat_map (ordering_at l.test l.placement (runs_of l.runs) l.first l.second)
    (range_with_len (l.at + 1) (l.second.at - l.at))
    ≡ ordering l.test l.placement (runs_of l.runs) l.first l.second
