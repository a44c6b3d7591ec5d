use Rattle.std.proofs.Common.{◌≡◌, ◌++◌, map}
use Rattle.fs_model.specs.Numbers.{numbers_below}
use Rattle.fs_judge_outcomes.specs.declared.place.Place.TheVariants.{Register}
use Rattle.fs_app_states.proofs.places.push_registers.Given as goal

abbrev pub invariant-loop-number : goal.invariant-loop-number
invariant-loop-number l = l.places.items ≡ l.initial.places.items ++ map (Register l.hart) (numbers_below l.number)
