use Rattle.std.proofs.Common.{◌≡◌, take}
use Rattle.fs_judge_outcomes.proofs.asked.copied_locations.Given as goal

-- the copies so far
abbrev pub invariant-loop-location : goal.invariant-loop-location
invariant-loop-location l = l.made.items ≡ take l.location-index l.locations
