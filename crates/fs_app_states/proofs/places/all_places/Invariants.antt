use Rattle.std.proofs.Common.{◌≡◌, map}
use Rattle.std.specs.List.{flat_map}
use Rattle.fs_model.specs.Numbers.{numbers_below}
use Rattle.fs_judge_outcomes.specs.declared.place.Place.TheVariants.{Register}
use Rattle.fs_app_states.proofs.places.all_places.Given as goal

-- the registers of the harts so far
abbrev pub invariant-loop-hart : goal.invariant-loop-hart
invariant-loop-hart l = l.places.items ≡ flat_map (λ hart. map (Register hart) (numbers_below 32)) (numbers_below l.hart)
