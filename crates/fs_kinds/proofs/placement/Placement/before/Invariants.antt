use Rattle.std.proofs.Common.{◌≡◌, length, drop}
use Rattle.fs_kinds.specs.Placement.{precedes}
use Rattle.fs_kinds.proofs.placement.Placement.before.Given as goal

-- what is left of the two placements decides
abbrev pub invariant-loop-entry : goal.invariant-loop-entry
invariant-loop-entry l =
    (goal.iterator-loop-entry).can_next l.entry-iterator ×
    (goal.iterator-loop-entry).is_finite l.entry-iterator ×
    (precedes l.self l.other ≡ precedes (drop (length l.yielded) l.self) (drop (length l.yielded) l.other))
