use Rattle.std.proofs.Common.{[], ◌∷◌, ◌++◌, ap, ◌∙◌}
use Rattle.fs_judge_outcomes.specs.declared.place.Place.TheVariants.{Register}
use Rattle.fs_app_states.proofs.Numbered.{pushed}
use Rattle.fs_app_states.proofs.places.push_registers.Goals as goal

pub loop-number-preserved : goal.loop-number-preserved
loop-number-preserved c =
    c.in_ok-push.ensures.items
    ∙ ap (λ place. c.loop-number.places.items ++ place ∷ []) (c.register.ensures ∙ ap (Register c.args.hart) c.x.ensures)
    ∙ pushed (Register c.args.hart) c.args.places.now.items c.loop-number.places.items c.loop-number.number c.loop-number.invariant
