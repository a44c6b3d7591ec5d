use Rattle.std.proofs.Common.{map, ◌∙◌}
use Rattle.fs_model.specs.Numbers.{numbers_below}
use Rattle.fs_judge_outcomes.specs.declared.place.Place.TheVariants.{Register}
use Rattle.fs_app_states.proofs.Numbered.{flat_pushed}
use Rattle.fs_app_states.proofs.places.all_places.Goals as goal

pub loop-hart-preserved : goal.loop-hart-preserved
loop-hart-preserved c =
    c.in_ok-push_registers.ensures
    ∙ flat_pushed (λ hart. map (Register hart) (numbers_below 32)) c.loop-hart.places.items c.loop-hart.hart c.loop-hart.invariant
