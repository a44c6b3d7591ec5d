use Rattle.std.proofs.Common.{ℕ, List}
use Rattle.fs_kinds.specs.declared.placement.Entry.{Entry}
use Rattle.fs_model.specs.declared.test.Test.{Test}
use Rattle.fs_model.specs.Operations.{steps_of}
use Rattle.fs_model.specs.Values.{IsValue}
use Rattle.fs_model.specs.Allows.{Allows}
use Rattle.fs_hart.specs.Listing.{IsOffered}
use Rattle.fs_model_brute_force.specs.Allowing.{AllowsOver}
use Rattle.fs_values.specs.ThinAir.{IsAlwaysGrounded}
use Rattle.fs_values.specs.Sets.{AreValues}
use Rattle.fs_values.proofs.Sets.{back, loads}
use Rattle.fs_model_worked_examples.proofs.plain.value_sets_decide.Goals as goal

module _ (t : Test) (sets : List (List ℕ)) (are : AreValues t sets) (grounded : IsAlwaysGrounded t) (p : List Entry) where
  allowed : AllowsOver t p sets → Allows t p
  allowed (e, execution, over, outcome) = (e, record { execution = execution; outcome = outcome })

  over_sets : Allows t p → AllowsOver t p sets
  over_sets (e, shows) = (
    e,
    shows.execution,
    (λ hart low. loads (IsValue t) (IsOffered sets) (back (IsOffered sets) (IsValue t) are.words) (steps_of e.traces hart) (grounded p e shows.execution hart low)),
    shows.outcome,
  )

pub returns : goal.returns
returns c = λ t sets are grounded p. (allowed t sets are grounded p, over_sets t sets are grounded p)
