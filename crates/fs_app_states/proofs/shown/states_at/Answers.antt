use Rattle.std.proofs.Common.{◌≢◌, ◌∙◌, IfErr, List, subst}
use Rattle.std.specs.Arc.{arc_value}
use Rattle.fs_kinds.specs.declared.fault.Fault.TheVariants.{Memory}
use Rattle.fs_judge_outcomes.specs.States.{IsStatesFault}
use Rattle.fs_judge_outcomes.specs.declared.place.Place.{Place}
use Rattle.fs_app_states.proofs.shown.states_at.Goals as goal

pub returns-clause-err : goal.returns-clause-err
returns-clause-err c =
    subst (λ (places : List Place). IfErr c.states.result (λ f. f ≢ Memory → IsStatesFault (arc_value c.args.test.now) c.args.placement.now places f))
    (c.deref.ensures.value ∙ c.in_ok-places.ensures) c.states.ensures.err
