-- What is said of a witness.
use Rattle.std.proofs.Common.{◌↔◌, ℕ, false, true, List}
use Rattle.fs_kinds.specs.declared.placement.Entry.{Entry}
use Rattle.fs_kinds.specs.declared.reason.Reason.{Reason}
use Rattle.fs_kinds.specs.declared.reason.Reason.TheVariants as reason
use Rattle.fs_model.specs.declared.test.Test.{Test}
use Rattle.fs_model.specs.Test.{IsSame}
use Rattle.fs_model.specs.declared.step.Step.{Step}
use Rattle.fs_model.specs.declared.step.Stop.{Stop}
use Rattle.fs_model.specs.declared.step.Stop.TheVariants.{Astray}
use Rattle.fs_model.specs.Execution.{Execution}
use Rattle.fs_model.specs.Reasons.{IsYes, IsFirstStop, AreRuns, IsOrder, IsReason}
use Rattle.fs_model.specs.Witness.{Witness}
use Rattle.fs_app_guarantees.proofs.Kept.{Keeps, back, carried}
use Rattle.fs_app_guarantees.proofs.KeptPlacements.{execution, outcome, of_witness}

module _ (w : Witness) where
  first_stop : (hart : ℕ) (stop : Stop) → Keeps (λ t. IsFirstStop t w hart stop)
  first_stop hart stop u v e h =
      record { hart_of_test = h.hart_of_test; steps = h.steps; stopped = h.stopped; earlier = h.earlier }

  are_runs : (traces : List (List Step)) → Keeps (λ t. AreRuns t w traces)
  are_runs traces u v e h = record { harts = h.harts; whole = h.whole }

  is_order : (x : Execution) → Keeps (λ t. IsOrder t w x)
  is_order x u v e h = record { runs = are_runs x.traces u v e h.runs; names = h.names; once = h.once }

  module _ (p : List Entry) where
    yes_kept : Keeps (λ t. IsYes t p w)
    yes_kept u v e h =
        (h.0, of_witness w h.0 u v e h.1, execution p h.0 u v e h.2, outcome h.0 true u v e h.3)

    reason_kept : (why : Reason) → Keeps (λ t. IsReason t p w why)
    reason_kept (reason.Choices hart) u v e h = (h.0, h.1, first_stop hart h.0 u v e h.2)
    reason_kept (reason.Astray hart at) u v e h = first_stop hart (Astray at) u v e h
    reason_kept reason.Order u v e h = (
      h.0,
      are_runs h.0 u v e h.1,
      λ order x.
          let ordered : Execution = record { traces = h.0; order = order } in
          h.2 order (back (λ t. IsOrder t w ordered) (is_order ordered) u v e x),
    )
    reason_kept reason.Outcome u v e h =
        (h.0, is_order h.0 u v e h.1, execution p h.0 u v e h.2, outcome h.0 false u v e h.3)
    reason_kept other u v e h = (h.0, is_order h.0 u v e h.1, h.2)

pub reason_same : (t u : Test) → IsSame t u → (p : List Entry) (w : Witness) (why : Reason) → IsReason t p w why ↔ IsReason u p w why
reason_same t u s p w why = carried (λ x. IsReason x p w why) (reason_kept w p why) t u s

pub yes_same : (t u : Test) → IsSame t u → (p : List Entry) (w : Witness) → IsYes t p w ↔ IsYes u p w
yes_same t u s p w = carried (λ x. IsYes x p w) (yes_kept w p) t u s
