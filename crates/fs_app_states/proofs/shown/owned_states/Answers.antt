use Rattle.std.proofs.Common.{◌≢◌, IfOk, IfErr, string_bytes, ap, sym, subst, ◌∙◌}
use Rattle.fs_kinds.specs.declared.fault.Fault.TheVariants.{Memory}
use Rattle.fs_model.specs.declared.test.Test.{Test}
use Rattle.fs_model.specs.Slots.{slots}
use Rattle.fs_judge_outcomes.specs.States.{ArePlacesOf, IsStatesFault}
use Rattle.fs_app_states.specs.Shown.{places_of}
use Rattle.fs_app_states.specs.inner.Parts.{IsOfStates}
use Rattle.fs_app_states.proofs.shown.owned_states.Goals as goal

pub placed_states-requires-clause-placement : goal.placed_states-requires-clause-placement
placed_states-requires-clause-placement c = c.requires.placement ∙ ap slots (sym c.in_ok-test.ensures)

pub placed_states-requires-clause-places : goal.placed_states-requires-clause-places
placed_states-requires-clause-places c =
    subst (λ (t : Test). ArePlacesOf t (places_of c.args.columns.now)) (sym c.in_ok-test.ensures) c.requires.places

pub returns-clause-ok : goal.returns-clause-ok
returns-clause-ok c =
    subst (λ (t : Test). IfOk c.placed_states.result (λ text. IsOfStates t c.args.placement.now c.args.columns.now c.args.asked (string_bytes text)))
    c.in_ok-test.ensures c.placed_states.ensures.ok

pub returns-clause-err : goal.returns-clause-err
returns-clause-err c =
    subst (λ (t : Test). IfErr c.placed_states.result (λ f. f ≢ Memory → IsStatesFault t c.args.placement.now (places_of c.args.columns.now) f)) c.in_ok-test.ensures c.placed_states.ensures.err
