use Rattle.std.proofs.Common.{◌≡◌, length}
use Rattle.fs_deps.specs.Tracker.{IsTracked}
use Rattle.fs_deps.proofs.Listed.{EachIsMasks}
use Rattle.fs_deps.proofs.deps.Deps.of.Given as goal

abbrev pub invariant-loop-j : goal.invariant-loop-j
invariant-loop-j l =
    IsTracked l.trace.steps l.j l.tracker × (length l.masks.items ≡ l.j) × EachIsMasks l.trace.steps l.masks.items
