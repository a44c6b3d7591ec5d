use Rattle.std.proofs.Common.{◌≡◌, ◌++◌, map}
use Rattle.fs_model.specs.Numbers.{numbers_below}
use Rattle.fs_judge_outcomes.specs.declared.place.Place.TheVariants.{Location}
use Rattle.fs_app_states.proofs.places.push_locations.Given as goal

abbrev pub invariant-loop-location : goal.invariant-loop-location
invariant-loop-location l = l.places.items ≡ l.initial.places.items ++ map Location (numbers_below l.location)
