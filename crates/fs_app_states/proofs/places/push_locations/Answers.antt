use Rattle.std.proofs.Common.{◌∙◌}
use Rattle.fs_judge_outcomes.specs.declared.place.Place.TheVariants.{Location}
use Rattle.fs_app_states.proofs.Numbered.{pushed}
use Rattle.fs_app_states.proofs.places.push_locations.Goals as goal

pub loop-location-preserved : goal.loop-location-preserved
loop-location-preserved c =
    c.in_ok-push.ensures.items
    ∙ pushed Location c.args.places.now.items c.loop-location.places.items c.loop-location.location c.loop-location.invariant
